-- Calls that look for a member's headers.
use Rattle.std.proofs.Common.{◌≡◌, ◌≢◌, ◌≤◌, ◌<◌, ◌+◌, ◌*◌, ◌%◌, ◌⊎◌, ℕ, Bool, true, false, List, [], ◌∷◌, length, take, drop, set, refl, sym, ◌∙◌, ap, arith, inl, inr, subst, get_or-set_same, get_or-set_other, get_or-take, get_or-drop, length-take, length-drop}
use Rattle.std.proofs.lemmas.Bool.{false≢true}
use Rattle.std.proofs.lemmas.List.{ext_get_or}
use Rattle.std.specs.Prelude.{Option, Some, None, IfSome, Result, Ok, Err, IsErr, IsOk, is_some, slice_range}
use Rattle.dg_io.specs.Makes.{Makes}
use Rattle.dg_io.specs.MakesLaws.{makes_both, makes_none, makes_only, makes_such}
use Rattle.dg_io.specs.OnlyLaws.{only_one}
use Rattle.dg_io.specs.RackCalls.RackCall.{looks, calls}
use Rattle.dg_io.specs.RackWords.{Leaves}
use Rattle.dg_io.specs.Told.{IsSame, Reads, Told}
use Rattle.dg_io.specs.declared.outside.Rack.{Ghosts}
use Rattle.dg_model.specs.Causes.{Rose}
use Rattle.dg_stop.proofs.Committing.{same_or_not}
use Rattle.dg_stop.proofs.PhaseLemmas.{told_itself, told_right}
use Rattle.dg_stop.proofs.PieceLemmas.{serves_done, serves_none, serves_ok, serves_then}
use Rattle.dg_stop.specs.FoundHeaders.{AreFound, AreHeadersOf, AreOn, Bears, IsFound, IsIn, IsLook, IsOpening, IsPage, IsPassed, IsReading, IsSeenOn, LooksAt, found_at, no_headers}
use Rattle.dg_stop.specs.Headers.{HasHeader, IsBareLabeled, IsLabeled}
use Rattle.dg_stop.specs.Layouts.{double_size, header_place}
use Rattle.dg_stop.specs.Phases.{flag_in}
use Rattle.dg_stop.specs.Serving.{Serves}
use Rattle.dg_stop.specs.Tables.{FindsOn, LosesOn}
use Rattle.dg_stop.specs.Values.{header_of}
use Rattle.dg_stop.specs.declared.found_headers.Found.{Found}
use Rattle.dg_stop.specs.declared.headers.Header.{Header}

-- ---- what calls leave

module _ {S : Type 0} (rack : Ghosts S) (q : ℕ) where
  pub leaves_serves : {T E : Type 0} (r : Result T E) (a b : S) → Leaves rack q r a b → Serves rack q r a b
  leaves_serves r a b l = record {
    same_rack = l.same_rack;
    cause = l.cause.failed;
    spared = l.cause.kept;
    rise = l.rise;
    others = l.others;
    other_faults = l.other_faults;
    others_stand = l.others_stand;
    stands_on = l.stands_on;
    tells = l.tells;
    steady_on = l.steady_on;
  }

  -- the same under another answer that failed, or didn't, as well
  pub serves_as : {T E A B : Type 0} (r : Result T E) (s : Result A B) → (IsErr r → IsErr s) → (IsErr s → IsErr r) → (a b : S) → Serves rack q r a b → Serves rack q s a b
  serves_as (Ok x) (Err y) to from a b l = absurd (false≢true (from refl))
  serves_as (Err x) (Ok y) to from a b l = absurd (false≢true (to refl))
  serves_as (Ok x) (Ok y) to from a b l = record {
    same_rack = l.same_rack;
    cause = tt;
    spared = l.spared;
    rise = l.rise;
    others = l.others;
    other_faults = l.other_faults;
    others_stand = l.others_stand;
    stands_on = l.stands_on;
    tells = l.tells;
    steady_on = l.steady_on;
  }
  serves_as (Err x) (Err y) to from a b l = record {
    same_rack = l.same_rack;
    cause = l.cause;
    spared = tt;
    rise = l.rise;
    others = l.others;
    other_faults = l.other_faults;
    others_stand = l.others_stand;
    stands_on = tt;
    tells = l.tells;
    steady_on = l.steady_on;
  }

  pub looks_as : {T E A B : Type 0} (r : Result T E) (s : Result A B) → (IsErr r → IsErr s) → (IsErr s → IsErr r) → (a b : S) → LooksAt rack q r a b → LooksAt rack q s a b
  looks_as r s to from a b l = record { made = l.made; serves = serves_as r s to from a b l.serves; same = l.same; writes = l.writes }

  pub looked : {T E : Type 0} (r : Result T E) (a b : S) → Leaves rack q r a b → rack.made a (looks q ∷ []) b → Told IsSame (rack.bytes a q) (rack.bytes b q)
      → (rack.counts b).writes ≡ (rack.counts a).writes → LooksAt rack q r a b
  looked r a b l made same writes = record {
    made = makes_only rack (IsLook q) a b (only_one rack (IsLook q) (looks q) a b (inl refl) made);
    serves = leaves_serves r a b l;
    same = same;
    writes = writes;
  }

  pub was_read : {T E : Type 0} (r : Result T E) (a b : S) → Leaves rack q r a b → rack.made a (calls q ∷ []) b → Told IsSame (rack.bytes a q) (rack.bytes b q)
      → (rack.counts b).writes ≡ (rack.counts a).writes → LooksAt rack q r a b
  was_read r a b l made same writes = record {
    made = makes_only rack (IsLook q) a b (only_one rack (IsLook q) (calls q) a b (inr refl) made);
    serves = leaves_serves r a b l;
    same = same;
    writes = writes;
  }

  pub looks_none : {A B : Type 0} (x : A) (a : S) → LooksAt {T = A} {E = B} rack q (Ok x) a a
  looks_none x a = record { made = makes_none rack (IsLook q) a; serves = serves_done rack q x a a (serves_none rack q a); same = told_itself (rack.bytes a q); writes = refl }

  pub looks_then : {T E A B : Type 0} (r : Result T E) (s : Result A B) → IsOk r → (a b c : S) → LooksAt rack q r a b → LooksAt rack q s b c → LooksAt rack q s a c
  looks_then r s ok a b c one two = record {
    made = makes_both rack (IsLook q) a b c one.made two.made;
    serves = serves_then rack q a b c (serves_ok rack q r a b ok one.serves) s two.serves;
    same = told_right IsSame (rack.bytes a q) (rack.bytes b q) (rack.bytes c q) one.same two.same;
    writes = two.writes ∙ one.writes;
  }

-- ---- the pages that were read

part_of_part : (all : List ℕ) (a n m : ℕ) → a + n ≤ m → take n (drop a (take m all)) ≡ take n (drop a all)
part_of_part all a n m within =
    ext_get_or 0 (take n (drop a (take m all))) (take n (drop a all))
    (length-take n (drop a (take m all)) ∙ omega (arith, within, length-drop a (take m all), length-take m all, length-drop a all, length-take n (drop a all)))
    (λ i low.
    let near : i < n = omega (arith, low, length-take n (drop a (take m all))) in
    get_or-take n (drop a (take m all)) i 0 near ∙ get_or-drop a (take m all) i 0 ∙ get_or-take m all (a + i) 0 (omega (arith, near, within))
    ∙ sym (get_or-drop a all i 0) ∙ sym (get_or-take n (drop a all) i 0 near))

first_part : (all : List ℕ) → slice_range (slice_range all 0 1024) 0 512 ≡ slice_range all 0 512
first_part all = part_of_part all 0 512 1024 (omega arith)

second_part : (all : List ℕ) → slice_range (slice_range all 0 1024) 512 1024 ≡ slice_range all 512 1024
second_part all = part_of_part all 512 512 1024 (omega arith)

-- ---- how a member begins

labeled_as : (a b : List ℕ) → take 8 a ≡ take 8 b → IsLabeled a → IsLabeled b
labeled_as a b same is = elim is [ inl e ↦ inl (sym same ∙ e) | inr e ↦ inr (sym same ∙ e) ]

module _ (both : List ℕ) (size : length both ≡ 1024) where
  begins : (all : List ℕ) → both ≡ slice_range all 0 (0 + length both) → take 8 both ≡ take 8 all
  begins all is =
      ap (λ (l : List ℕ). take 8 l) (is ∙ ap (λ (x : ℕ). slice_range all 0 (0 + x)) size) ∙ part_of_part all 0 8 1024 (omega arith)

  begins_told : (P : List ℕ → Type 0) → ((all : List ℕ) → take 8 both ≡ take 8 all → P all) → (x y : Option (List ℕ)) → Told (Reads 0 both) x y → IfSome y P
  begins_told P by x None told = tt
  begins_told P by None (Some b) told = absurd told
  begins_told P by (Some a) (Some b) told = subst P (sym told.same) (by a (begins a told.there))

  pub labeled_read : {S : Type 0} (rack : Ghosts S) (q : ℕ) (old new : S) → Told (Reads 0 both) (rack.bytes old q) (rack.bytes new q) → IsLabeled both → IsSeenOn rack q new None
  labeled_read rack q old new told is = begins_told IsLabeled (λ all same. labeled_as both all same is) (rack.bytes old q) (rack.bytes new q) told

-- ---- the pages

module _ (q n k : ℕ) (all page : List ℕ) (long : length all ≡ n) (is : page ≡ slice_range all (512 * k) (512 * k + 512)) (read : Option Header) (reading : IsReading k q n page read) where
  place_of : (h : Header) → h.sequence % 2 ≡ k → slice_range all (header_place h.sequence) (header_place h.sequence + 512) ≡ page
  place_of h e = ap (λ (x : ℕ). slice_range all (512 * x) (512 * x + 512)) e ∙ sym is

  pub page_has : (h : Header) → read ≡ Some h → HasHeader q all (header_of h)
  page_has h e =
      let page_is : IsPage k q n page (header_of h) = subst (λ (r : Option Header). IfSome r (λ x. IsPage k q n page (header_of x))) e reading.only in
      record { is = page_is.counted.is; own = page_is.counted.own; bytes = place_of h page_is.counted.place ∙ page_is.bytes; long = long ∙ page_is.counted.long }

  pub has_page : (h : Header) → HasHeader q all (header_of h) → h.sequence % 2 ≡ k → read ≡ Some h
  has_page h has e = reading.header h (record { counted = record { is = has.is; place = e; own = has.own; long = sym long ∙ has.long }; bytes = sym (place_of h e) ∙ has.bytes })

-- where the bytes aren't told
page_bears : {S : Type 0} (rack : Ghosts S) (q n k : ℕ) (page : List ℕ) (read : Option Header) → IsReading k q n page read → (now : S) → rack.stands now q ≡ true
    → IfSome (rack.bytes now q) (λ l. length l ≡ n) → (h : Header) → read ≡ Some h → Bears rack q now h
page_bears rack q n k page read reading now stand told h e =
    let page_is : IsPage k q n page (header_of h) = subst (λ (r : Option Header). IfSome r (λ x. IsPage k q n page (header_of x))) e reading.only in
    record { is = page_is.counted.is; own = page_is.counted.own; stands = stand; long = long_of (rack.bytes now q) told page_is.counted.long }
  where
    long_of : (x : Option (List ℕ)) → IfSome x (λ l. length l ≡ n) → n ≡ double_size h.size h.room → IfSome x (λ l. length l ≡ double_size h.size h.room)
    long_of None told e = tt
    long_of (Some l) told e = told ∙ e

two_places : (s : ℕ) → (s % 2 ≡ 0) ⊎ (s % 2 ≡ 1)
two_places s = grind arith

module _ (q n : ℕ) (both : List ℕ) (found : Found) (first : IsReading 0 q n (slice_range both 0 512) found.first) (second : IsReading 1 q n (slice_range both 512 1024) found.second) (size : length both ≡ 1024) where
  headers_are : (all : List ℕ) → length all ≡ n → both ≡ slice_range all 0 (0 + length both) → AreHeadersOf q found all
  headers_are all long is h =
      let whole : both ≡ slice_range all 0 1024 = is ∙ ap (λ (x : ℕ). slice_range all 0 (0 + x)) size in
      let one : slice_range both 0 512 ≡ slice_range all (512 * 0) (512 * 0 + 512) = ap (λ (l : List ℕ). slice_range l 0 512) whole ∙ first_part all in
      let two : slice_range both 512 1024 ≡ slice_range all (512 * 1) (512 * 1 + 512) = ap (λ (l : List ℕ). slice_range l 512 1024) whole ∙ second_part all in (
        λ isin. elim isin [
          | inl e ↦ page_has q n 0 all (slice_range both 0 512) long one found.first first h e
          | inr e ↦ page_has q n 1 all (slice_range both 512 1024) long two found.second second h e
        ],
        λ has. elim (two_places h.sequence) [
          | inl e ↦ inl (has_page q n 0 all (slice_range both 0 512) long one found.first first h has e)
          | inr e ↦ inr (has_page q n 1 all (slice_range both 512 1024) long two found.second second h has e)
        ],
      )

  headers_told : (x y : Option (List ℕ)) → IfSome x (λ l. length l ≡ n) → Told (Reads 0 both) x y → IfSome y (AreHeadersOf q found)
  headers_told x None long told = tt
  headers_told None (Some b) long told = absurd told
  headers_told (Some a) (Some b) long told = subst (AreHeadersOf q found) (sym told.same) (headers_are a long told.there)

  pub on_read : {S : Type 0} (rack : Ghosts S) (old new : S) → IfSome (rack.bytes old q) (λ l. length l ≡ n) → Told (Reads 0 both) (rack.bytes old q) (rack.bytes new q) → rack.stands new q ≡ true
      → (IsLabeled both → ⊥) → AreOn rack q new found
  on_read rack old new long told stand plain = record {
    headers = headers_told (rack.bytes old q) (rack.bytes new q) long told;
    bare = begins_told both size (λ l. IsBareLabeled q l) (λ all same is. absurd (plain (labeled_as all both (sym same) is))) (rack.bytes old q) (rack.bytes new q) told;
    bears = λ h isin. elim isin [
      | inl e ↦ page_bears rack q n 0 (slice_range both 0 512) found.first first new stand (long_read (rack.bytes old q) (rack.bytes new q) long told) h e
      | inr e ↦ page_bears rack q n 1 (slice_range both 512 1024) found.second second new stand (long_read (rack.bytes old q) (rack.bytes new q) long told) h e
    ];
  }
    where
      long_read : (x y : Option (List ℕ)) → IfSome x (λ l. length l ≡ n) → Told (Reads 0 both) x y → IfSome y (λ l. length l ≡ n)
      long_read x None long told = tt
      long_read None (Some b) long told = absurd told
      long_read (Some a) (Some b) long told = ap (λ (l : List ℕ). length l) told.same ∙ long

pub none_some : (h : Header) → ◌≡◌ {A = Option Header} None (Some h) → ⊥
none_some h e = false≢true (ap is_some e)

-- ---- a turn of one member, and what it leaves of the others

pub some_on : (P : List ℕ → Type 0) (x y : Option (List ℕ)) → IfSome x P → Told IsSame x y → IfSome y P
some_on P x None h same = tt
some_on P None (Some b) h same = absurd same
some_on P (Some a) (Some b) h same = subst P (sym same) h

module _ {S : Type 0} (rack : Ghosts S) where
  on_still : (q : ℕ) (found : Found) (mid new : S) → Told IsSame (rack.bytes mid q) (rack.bytes new q) → (rack.stands mid q ≡ true → rack.stands new q ≡ true) → AreOn rack q mid found → AreOn rack q new found
  on_still q found mid new same stand on = record {
    headers = some_on (AreHeadersOf q found) (rack.bytes mid q) (rack.bytes new q) on.headers same;
    bare = some_on (IsBareLabeled q) (rack.bytes mid q) (rack.bytes new q) on.bare same;
    bears = λ h isin.
        let was = on.bears h isin in
        record { is = was.is; own = was.own; stands = stand was.stands; long = some_on (λ l. length l ≡ double_size h.size h.room) (rack.bytes mid q) (rack.bytes new q) was.long same };
  }

  lost_still : (q : ℕ) (failed : Bool) (mid new : S) → Told IsSame (rack.bytes mid q) (rack.bytes new q) → (failed ≡ true) ⊎ IfSome (rack.bytes mid q) IsLabeled
      → (failed ≡ true) ⊎ IfSome (rack.bytes new q) IsLabeled
  lost_still q failed mid new same is = elim is [ inl e ↦ inl e | inr labeled ↦ inr (some_on IsLabeled (rack.bytes mid q) (rack.bytes new q) labeled same) ]

  found_still : (q : ℕ) (found : Found) (known failed : Bool) (old mid new : S) → Told IsSame (rack.bytes mid q) (rack.bytes new q) → (rack.stands mid q ≡ true → rack.stands new q ≡ true)
      → (rack.counts new).faults q ≡ (rack.counts mid).faults q → IsFound rack q found known failed old mid → IsFound rack q found known failed old new
  found_still q found known failed old mid new same stand faults is = record {
    same = told_right IsSame (rack.bytes old q) (rack.bytes mid q) (rack.bytes new q) is.same same;
    on = λ e. on_still q found mid new same stand (is.on e);
    none = is.none;
    lost = λ e. lost_still q failed mid new same (is.lost e);
    unknown = is.unknown;
    rose = λ e. subst (λ (n : ℕ). Rose ((rack.counts old).faults q) n) (sym faults) (is.rose e);
    quiet = λ e. faults ∙ is.quiet e;
  }

  passed_still : (q : ℕ) (found : Found) (old mid new : S) → Told IsSame (rack.bytes mid q) (rack.bytes new q) → (rack.counts new).faults q ≡ (rack.counts mid).faults q
      → IsPassed rack q found old mid → IsPassed rack q found old new
  passed_still q found old mid new same faults is = record {
    same = told_right IsSame (rack.bytes old q) (rack.bytes mid q) (rack.bytes new q) is.same same;
    none = is.none;
    faults = faults ∙ is.faults;
  }

  opening_made : (q : ℕ) → q < 32 → (a b : S) → Makes rack (IsLook q) a b → Makes rack IsOpening a b
  opening_made q low a b made = makes_such rack (IsLook q) IsOpening (λ call is. record { member = q; low = low; is = is }) a b made

  -- the members with that of a turn, which was found with these headers, or on which a call failed
  turn_with : {T E : Type 0} (n m : ℕ) (found next : List Found) (known later failed fails : List Bool) (old mid new : S) (r : Result T E) → AreFound rack n found known failed old mid → n ≤ m → (q : ℕ) → q < m
      → ((p : ℕ) → p ≢ q → p < m → p < n) → q < 32 → LooksAt rack q r mid new → ((p : ℕ) → p ≢ q → found_at next p ≡ found_at found p) → ((p : ℕ) → p ≢ q → flag_in later p ≡ flag_in known p)
      → ((p : ℕ) → p ≢ q → flag_in fails p ≡ flag_in failed p) → IsFound rack q (found_at next q) (flag_in later q) (flag_in fails q) old new → AreFound rack m next later fails old new
  turn_with n m found next known later failed fails old mid new r so low q within only few look same flags marks own = record {
    made = makes_both rack IsOpening old mid new so.made (opening_made q few mid new look.made);
    steady_on = ((λ h. look.serves.steady_on.0 (so.steady_on.0 h)), (λ h. so.steady_on.1 (look.serves.steady_on.1 h)));
    tells = λ p h. so.tells p (look.serves.tells p h);
    writes = look.writes ∙ so.writes;
    below = λ p under. elim (same_or_not p q) [
      | inl e ↦ subst (λ (x : ℕ). IsFound rack x (found_at next x) (flag_in later x) (flag_in fails x) old new) (sym e) own
      | inr other ↦ below p other (only p other under)
    ];
    rest = λ p over.
        let other : p ≢ q = λ e. absurd (omega (arith, e, over, within)) in
        subst (λ (f : Found). IsPassed rack p f old new) (sym (same p other)) (passed_still p (found_at found p) old mid new (look.serves.others p other) (look.serves.other_faults p other) (so.rest p (omega (arith, over, low))));
    flags = λ p over under.
        let other : p ≢ q = λ e. absurd (omega (arith, e, over, within)) in
        flags p other ∙ so.flags p (omega (arith, over, low)) under;
    unfailed = λ p over.
        let other : p ≢ q = λ e. absurd (omega (arith, e, over, within)) in
        marks p other ∙ so.unfailed p (omega (arith, over, low));
  }
    where
      below : (p : ℕ) → p ≢ q → p < n → IsFound rack p (found_at next p) (flag_in later p) (flag_in fails p) old new
      below p other under = subst (λ (f : Found). IsFound rack p f (flag_in later p) (flag_in fails p) old new) (sym (same p other))
          (subst (λ (b : Bool). IsFound rack p (found_at found p) b (flag_in fails p) old new) (sym (flags p other))
          (subst (λ (b : Bool). IsFound rack p (found_at found p) (flag_in known p) b old new) (sym (marks p other))
          (found_still p (found_at found p) (flag_in known p) (flag_in failed p) old mid new (look.serves.others p other) (look.serves.others_stand p other) (look.serves.other_faults p other) (so.below p under))))

  -- a member's first turn
  first_found : {T E : Type 0} (q : ℕ) (found : Found) (headers : Found) (old mid new : S) (r : Result T E) → IsOk r → IsPassed rack q found old mid → LooksAt rack q r mid new → AreOn rack q new headers
      → (known failed : Bool) → known ≡ true → failed ≡ false → IsFound rack q headers known failed old new
  first_found q found headers old mid new (Err e) ok was look on known failed is none = absurd (false≢true ok)
  first_found q found headers old mid new (Ok x) ok was look on known failed is none = record {
    same = told_right IsSame (rack.bytes old q) (rack.bytes mid q) (rack.bytes new q) was.same look.same;
    on = λ e. on;
    none = λ e. absurd (false≢true (sym e ∙ is));
    lost = λ e. absurd (false≢true (sym e ∙ is));
    unknown = λ e. absurd (false≢true (sym none ∙ e));
    rose = λ e. absurd (false≢true (sym none ∙ e));
    quiet = λ e. look.serves.spared ∙ was.faults;
  }

  first_labeled : {T E : Type 0} (q : ℕ) (found : Found) (old mid new : S) (r : Result T E) → IsOk r → IsPassed rack q found old mid → LooksAt rack q r mid new → IsSeenOn rack q new None
      → (known failed : Bool) → known ≡ false → failed ≡ false → IsFound rack q found known failed old new
  first_labeled q found old mid new (Err e) ok was look labeled known failed is none = absurd (false≢true ok)
  first_labeled q found old mid new (Ok x) ok was look labeled known failed is none = record {
    same = told_right IsSame (rack.bytes old q) (rack.bytes mid q) (rack.bytes new q) was.same look.same;
    on = λ e. absurd (false≢true (sym is ∙ e));
    none = λ e. was.none;
    lost = λ e. inr labeled;
    unknown = λ e. is;
    rose = λ e. absurd (false≢true (sym none ∙ e));
    quiet = λ e. look.serves.spared ∙ was.faults;
  }

  first_lost : {T E : Type 0} (q : ℕ) (found : Found) (old mid new : S) (r : Result T E) → IsErr r → IsPassed rack q found old mid → LooksAt rack q r mid new
      → (known failed : Bool) → known ≡ false → failed ≡ true → IsFound rack q found known failed old new
  first_lost q found old mid new (Ok x) err was look known failed is marked = absurd (false≢true err)
  first_lost q found old mid new (Err e) err was look known failed is marked = record {
    same = told_right IsSame (rack.bytes old q) (rack.bytes mid q) (rack.bytes new q) was.same look.same;
    on = λ e. absurd (false≢true (sym is ∙ e));
    none = λ e. was.none;
    lost = λ e. inl marked;
    unknown = λ e. is;
    rose = λ e. subst (λ (n : ℕ). Rose n ((rack.counts new).faults q)) was.faults look.serves.cause;
    quiet = λ e. absurd (false≢true (sym e ∙ marked));
  }

  pub turn_found : {T E : Type 0} (n : ℕ) (found : List Found) (known failed : List Bool) (headers : Found) (old mid new : S) (r : Result T E) → IsOk r → length found ≡ 32 → n < 32 → AreFound rack n found known failed old mid
      → LooksAt rack n r mid new → AreOn rack n new headers → AreFound rack (n + 1) (set found n headers) known failed old new
  turn_found n found known failed headers old mid new r ok size low so look on =
      turn_with n (n + 1) found (set found n headers) known known failed failed old mid new r so (omega arith) n (omega arith) (λ p other under. omega (arith, other, under)) low look
      (λ p other. get_or-set_other found n p headers no_headers other) (λ p other. refl) (λ p other. refl)
      (subst (λ (f : Found). IsFound rack n f (flag_in known n) (flag_in failed n) old new) (sym (get_or-set_same found n headers no_headers (omega (arith, size, low))))
      (first_found n (found_at found n) headers old mid new r ok (so.rest n (omega arith)) look on (flag_in known n) (flag_in failed n) (so.flags n (omega arith) low) (so.unfailed n (omega arith))))

  pub turn_labeled : {T E : Type 0} (n : ℕ) (found : List Found) (known failed : List Bool) (old mid new : S) (r : Result T E) → IsOk r → length known ≡ 32 → n < 32 → AreFound rack n found known failed old mid
      → LooksAt rack n r mid new → IsSeenOn rack n new None → AreFound rack (n + 1) found (set known n false) failed old new
  turn_labeled n found known failed old mid new r ok size low so look labeled =
      turn_with n (n + 1) found found known (set known n false) failed failed old mid new r so (omega arith) n (omega arith) (λ p other under. omega (arith, other, under)) low look
      (λ p other. refl) (λ p other. get_or-set_other known n p false false other) (λ p other. refl)
      (first_labeled n (found_at found n) old mid new r ok (so.rest n (omega arith)) look labeled (flag_in (set known n false) n) (flag_in failed n)
      (get_or-set_same known n false false (omega (arith, size, low))) (so.unfailed n (omega arith)))

  pub turn_lost : {T E : Type 0} (n : ℕ) (found : List Found) (known failed : List Bool) (old mid new : S) (r : Result T E) → IsErr r → length known ≡ 32 → length failed ≡ 32 → n < 32 → AreFound rack n found known failed old mid
      → LooksAt rack n r mid new → AreFound rack (n + 1) found (set known n false) (set failed n true) old new
  turn_lost n found known failed old mid new r err size many low so look =
      turn_with n (n + 1) found found known (set known n false) failed (set failed n true) old mid new r so (omega arith) n (omega arith) (λ p other under. omega (arith, other, under)) low look
      (λ p other. refl) (λ p other. get_or-set_other known n p false false other) (λ p other. get_or-set_other failed n p true false other)
      (first_lost n (found_at found n) old mid new r err (so.rest n (omega arith)) look (flag_in (set known n false) n) (flag_in (set failed n true) n)
      (get_or-set_same known n false false (omega (arith, size, low))) (get_or-set_same failed n true false (omega (arith, many, low))))

  -- no turn yet
  pub found_none : (found : List Found) (known failed : List Bool) (old : S) → ((q : ℕ) → found_at found q ≡ no_headers) → ((q : ℕ) → q < 32 → flag_in known q ≡ true) → ((q : ℕ) → flag_in failed q ≡ false)
      → AreFound rack 0 found known failed old old
  found_none found known failed old none flags unfailed = record {
    made = makes_none rack IsOpening old;
    steady_on = ((λ h. h), (λ h. h));
    tells = λ q h. h;
    writes = refl;
    below = λ q low. absurd (omega (arith, low));
    rest = λ q high. record { same = told_itself (rack.bytes old q); none = λ h isin. nothing_in h (subst (IsIn h) (none q) isin); faults = refl };
    flags = λ q high low. flags q low;
    unfailed = λ q high. unfailed q;
  }
    where
      nothing_in : (h : Header) → IsIn h no_headers → ⊥
      nothing_in h isin = elim isin [
        | inl e ↦ none_some h e
        | inr e ↦ none_some h e
      ]

-- ---- calls that look again

module _ {S : Type 0} (rack : Ghosts S) where
  pub same_at : {T E : Type 0} (q : ℕ) (mid new : S) (r : Result T E) → LooksAt rack q r mid new → (p : ℕ) → Told IsSame (rack.bytes mid p) (rack.bytes new p)
  same_at q mid new r look p = elim (same_or_not p q) [
    | inl e ↦ subst (λ (x : ℕ). Told IsSame (rack.bytes mid x) (rack.bytes new x)) (sym e) look.same
    | inr other ↦ look.serves.others p other
  ]

  again_found : {T E : Type 0} (q : ℕ) (found : Found) (known failed : Bool) (old mid new : S) (r : Result T E) → IsOk r → IsFound rack q found known failed old mid → LooksAt rack q r mid new
      → IsFound rack q found known failed old new
  again_found q found known failed old mid new (Err e) ok is look = absurd (false≢true ok)
  again_found q found known failed old mid new (Ok x) ok is look = found_still rack q found known failed old mid new look.same look.serves.stands_on look.serves.spared is

  failed_or : (b : Bool) → (b ≡ true) ⊎ (b ≡ false)
  failed_or true = inl refl
  failed_or false = inr refl

  rose_then : (q : ℕ) (found : Found) (known failed : Bool) (old mid : S) → IsFound rack q found known failed old mid → (n : ℕ) → Rose ((rack.counts mid).faults q) n → Rose ((rack.counts old).faults q) n
  rose_then q found known failed old mid is n rose = elim (failed_or failed) [
    | inl e ↦ rose_over _ _ _ (is.rose e) rose
    | inr e ↦ subst (λ (m : ℕ). Rose m n) (is.quiet e) rose
  ]
    where
      rose_over : (a b c : ℕ) → Rose a b → Rose b c → Rose a c
      rose_over a b c one two = omega (arith, one, two)

  again_lost : {T E : Type 0} (q : ℕ) (found : Found) (known failed : Bool) (old mid new : S) (r : Result T E) → IsErr r → IsFound rack q found known failed old mid → LooksAt rack q r mid new
      → (headers : Found) → headers ≡ no_headers → (later fails : Bool) → later ≡ false → fails ≡ true → IsFound rack q headers later fails old new
  again_lost q found known failed old mid new (Ok x) err is look headers none later fails off marked = absurd (false≢true err)
  again_lost q found known failed old mid new (Err e) err is look headers none later fails off marked = record {
    same = told_right IsSame (rack.bytes old q) (rack.bytes mid q) (rack.bytes new q) is.same look.same;
    on = λ e. absurd (false≢true (sym off ∙ e));
    none = λ e h isin. elim (subst (IsIn h) none isin) [
      | inl x ↦ none_some h x
      | inr x ↦ none_some h x
    ];
    lost = λ e. inl marked;
    unknown = λ e. off;
    rose = λ e. rose_then q found known failed old mid is ((rack.counts new).faults q) look.serves.cause;
    quiet = λ e. absurd (false≢true (sym e ∙ marked));
  }

  pub finds_on : {T E : Type 0} (q : ℕ) → q < 32 → (mid new : S) (r : Result T E) → IsOk r → LooksAt rack q r mid new → FindsOn rack mid new
  finds_on q low mid new r ok look = record {
    same = same_at q mid new r look;
    on = λ found known failed old so. turn_with rack 32 32 found found known known failed failed old mid new r so (omega arith) q low (λ p other under. under) low look (λ p other. refl) (λ p other. refl) (λ p other. refl)
        (again_found q (found_at found q) (flag_in known q) (flag_in failed q) old mid new r ok (so.below q low) look);
  }

  pub loses_on : {T E : Type 0} (q : ℕ) → q < 32 → (mid new : S) (r : Result T E) → IsErr r → LooksAt rack q r mid new → LosesOn rack q mid new
  loses_on q low mid new r err look = record {
    same = same_at q mid new r look;
    low = low;
    on = λ found known failed old many all marks so.
        turn_with rack 32 32 found (set found q no_headers) known (set known q false) failed (set failed q true) old mid new r so (omega arith) q low (λ p other under. under) low look
        (λ p other. get_or-set_other found q p no_headers no_headers other) (λ p other. get_or-set_other known q p false false other) (λ p other. get_or-set_other failed q p true false other)
        (again_lost q (found_at found q) (flag_in known q) (flag_in failed q) old mid new r err (so.below q low) look (found_at (set found q no_headers) q)
        (get_or-set_same found q no_headers no_headers (omega (arith, low, many))) (flag_in (set known q false) q) (flag_in (set failed q true) q)
        (get_or-set_same known q false false (omega (arith, low, all))) (get_or-set_same failed q true false (omega (arith, low, marks))));
  }

  pub finds_none : (a : S) → FindsOn rack a a
  finds_none a = record { same = λ q. told_itself (rack.bytes a q); on = λ found known failed old so. so }

  pub finds_then : (a b c : S) → FindsOn rack a b → FindsOn rack b c → FindsOn rack a c
  finds_then a b c one two = record {
    same = λ q. told_right IsSame (rack.bytes a q) (rack.bytes b q) (rack.bytes c q) (one.same q) (two.same q);
    on = λ found known failed old so. two.on found known failed old (one.on found known failed old so);
  }

  pub finds_lose : (q : ℕ) (a b c : S) → FindsOn rack a b → LosesOn rack q b c → LosesOn rack q a c
  finds_lose q a b c one two = record {
    same = λ p. told_right IsSame (rack.bytes a p) (rack.bytes b p) (rack.bytes c p) (one.same p) (two.same p);
    low = two.low;
    on = λ found known failed old many all marks so. two.on found known failed old many all marks (one.on found known failed old so);
  }

  bears_on : (q : ℕ) (h : Header) (mid new : S) → Told IsSame (rack.bytes mid q) (rack.bytes new q) → (rack.stands mid q ≡ true → rack.stands new q ≡ true) → Bears rack q mid h → Bears rack q new h
  bears_on q h mid new same stand was = record {
    is = was.is;
    own = was.own;
    stands = stand was.stands;
    long = some_on (λ l. length l ≡ double_size h.size h.room) (rack.bytes mid q) (rack.bytes new q) was.long same;
  }

  stand_ok : {T E : Type 0} (q : ℕ) (mid new : S) (r : Result T E) → IsOk r → LooksAt rack q r mid new → rack.stands mid q ≡ true → rack.stands new q ≡ true
  stand_ok q mid new (Err e) ok look = absurd (false≢true ok)
  stand_ok q mid new (Ok x) ok look = look.serves.stands_on

  -- each member's header still counts on it
  pub bears_still : {T E : Type 0} (q : ℕ) (mid new : S) (r : Result T E) → IsOk r → LooksAt rack q r mid new → (p : ℕ) (h : Header) → Bears rack p mid h → Bears rack p new h
  bears_still q mid new r ok look p h was = elim (same_or_not p q) [
    | inl e ↦ subst (λ (x : ℕ). Bears rack x new h) (sym e) (bears_on q h mid new look.same (stand_ok q mid new r ok look) (subst (λ (x : ℕ). Bears rack x mid h) e was))
    | inr other ↦ bears_on p h mid new (look.serves.others p other) (look.serves.others_stand p other) was
  ]
