-- The rows of a flat table of sites, once one of them has changed.
use Rattle.std.proofs.Common.{◌≡◌, ◌≢◌, ◌⊎◌, ◌<◌, ◌≤◌, ◌+◌, ◌*◌, ◌==◌, ◌^◌, ℕ, suc, true, false, cond, not, List, [], ◌∷◌, ◌++◌, length, get_or, set, take, drop, nat_lt, MatchOption, Option, Some, None, refl, sym, ◌∙◌, ap, subst, inl, inr, ⊎_elim, arith}
use Rattle.std.proofs.Math.Nat.{mul-le-mul_right, suc-mul}
use Rattle.std.proofs.Math.Seq.{take-suc}
use Rattle.std.proofs.lemmas.Bool.{cases_eq, cases_lt}
use Rattle.std.proofs.lemmas.Bool.Decides.{nat_tests}
use Rattle.std.proofs.lemmas.List.{get_or-drop, get_or-set_other, get_or-set_same, append-nil, get_or_past, length-drop, length-set}
use Rattle.std.proofs.lemmas.Option.{slice_get-get_or}
use Rattle.std.proofs.lemmas.List.Elements.{filter-append}
use Rattle.dg_model.specs.declared.sites.Site.{Site}
use Rattle.dg_model.specs.Tables.{sites_off}
use Rattle.dg_model.proofs.SiteLists.{apart_test, same_test}
use Rattle.dg_map.specs.Bits.{IsBits, IsLeast, Sets, has}
use Rattle.dg_map.specs.Rows.{Appends, IsBare, IsFirstSpread, IsLists, IsUnspread, KeepsOff, SetsCount, SetsRow, count_of, row_of}
use Rattle.dg_map.specs.declared.bits.Bits.{Bits}
use Rattle.dg_map.specs.declared.site_lists.SiteLists.{SiteLists}
use Rattle.dg_map.proofs.AgreeLemmas.{same_some}
use Rattle.dg_map.proofs.FlatLemmas.{length_run, run_push, run_same}
use Rattle.dg_map.proofs.RestoreLemmas.{no_site}

-- a block past the last has no sites
pub row_past : (lists : SiteLists) (b : ℕ) → length lists.counts.items ≤ b → row_of lists b ≡ []
row_past lists b past = ap (λ c. take c (drop (b * lists.width) lists.sites.items)) (get_or_past lists.counts.items b 0 past)

-- a row lies within the table
pub row_fits : (b n w : ℕ) → b < n → b * w + w ≤ n * w
row_fits b n w lt = omega (arith, suc-mul b w, mul-le-mul_right w lt)

pub row_within : (lists : SiteLists) (b : ℕ) → IsLists lists → b < length lists.counts.items → b * lists.width + lists.width ≤ length lists.sites.items
row_within lists b sound lt = omega (arith, sound.size, row_fits b (length lists.counts.items) lists.width lt)

-- the places of another row are before a row or behind it
pub outside : (w b c i : ℕ) → b ≢ c → i < w → (c * w + i < b * w) ⊎ (b * w + w ≤ c * w + i)
outside w b c i ne lt =
    ⊎_elim
    (λ below. inr (omega (arith, row_fits b c w below)))
    (λ le. inl (omega (arith, row_fits c b w (above le), lt)))
    (cases_lt b c)
  where
    above : c ≤ b → c < b
    above le = ⊎_elim (λ less. less) (λ back. absurd (ne (omega (arith, le, back)))) (cases_lt c b)

-- the row of a block whose places hold what they held
pub row_stays : (lists : SiteLists) (ys : List Site) (b : ℕ) → IsLists lists → length ys ≡ length lists.sites.items → ((i : ℕ) → i < lists.width → get_or ys (b * lists.width + i) no_site ≡ get_or lists.sites.items (b * lists.width + i) no_site) → take (count_of lists b) (drop (b * lists.width) ys) ≡ row_of lists b
row_stays lists ys b sound long same =
    ⊎_elim
    (λ lt.
    run_same lists.sites.items ys (b * lists.width) (count_of lists b)
    (omega (arith, row_within lists b sound lt, sound.counts b)) long (λ i below. same i (omega (arith, below, sound.counts b))))
    (λ past. ap (λ c. take c (drop (b * lists.width) ys)) (get_or_past lists.counts.items b 0 past) ∙ sym (row_past lists b past))
    (cases_lt b (length lists.counts.items))

pub length_row : (lists : SiteLists) (b : ℕ) → IsLists lists → length (row_of lists b) ≡ count_of lists b
length_row lists b sound =
    ⊎_elim
    (λ lt. length_run lists.sites.items (b * lists.width) (count_of lists b) (omega (arith, row_within lists b sound lt, sound.counts b)))
    (λ past. ap length (row_past lists b past) ∙ sym (get_or_past lists.counts.items b 0 past))
    (cases_lt b (length lists.counts.items))

-- what the lists keep doesn't ask what the places hold
pub with_sites : (old new : SiteLists) → IsLists old → new.width ≡ old.width → new.counts ≡ old.counts → new.spread ≡ old.spread → length new.sites.items ≡ length old.sites.items → IsLists new
with_sites old new sound width counts spread long = record {
  small = subst (λ v. length v.items ≤ 2 ^ 20) (sym counts) sound.small;
  narrow = omega (arith, width, sound.narrow);
  size = long ∙ sound.size ∙ ap (λ v. length v.items * old.width) (sym counts) ∙ ap (λ w. length new.counts.items * w) (sym width);
  counts = λ b. omega (arith, ap (λ v. get_or v.items b 0) counts, sound.counts b, width);
  bits = subst IsBits (sym spread) sound.bits;
  bound = ap (λ bits. bits.bound) spread ∙ sound.bound ∙ ap (λ v. length v.items) (sym counts);
  spread = λ b. ap (λ bits. has bits b) spread ∙ sound.spread b ∙ ap (λ v. nat_lt 1 (get_or v.items b 0)) (sym counts);
}

-- a count is written, and `spread` made to agree with it
pub count_set : (old new : SiteLists) (b count : ℕ) → IsLists old → b < length old.counts.items → count ≤ old.width → new.width ≡ old.width → new.sites ≡ old.sites → new.counts.items ≡ set old.counts.items b count → Sets old.spread new.spread b (nat_lt 1 count) → SetsCount old new b count
count_set old new b count sound within few width sites counts sets = record {
  sound = record {
    small = omega (arith, size, sound.small);
    narrow = omega (arith, width, sound.narrow);
    size = ap (λ v. length v.items) sites ∙ sound.size ∙ ap (λ n. n * old.width) (sym size) ∙ ap (λ w. length new.counts.items * w) (sym width);
    counts = λ c. ⊎_elim (λ e. omega (arith, here c e, few, width)) (λ ne. omega (arith, apart c ne, sound.counts c, width)) (cases_eq b c);
    bits = sets.sound;
    bound = sets.bound ∙ sound.bound ∙ sym size;
    spread = λ c.
        ⊎_elim
        (λ e. ap (has new.spread) (sym e) ∙ sets.here ∙ ap (nat_lt 1) (sym (here c e)))
        (λ ne. sets.others c (λ f. ne (sym f)) ∙ sound.spread c ∙ ap (nat_lt 1) (sym (apart c ne)))
        (cases_eq b c);
  };
  width = width;
  sites = sites;
  size = size;
  counts = λ c.
      ⊎_elim
      (λ e. here c e ∙ ap (λ v. cond v count (count_of old c)) (sym (same_test b c e)))
      (λ ne. apart c ne ∙ ap (λ v. cond v count (count_of old c)) (sym (apart_test b c ne)))
      (cases_eq b c);
}
  where
    size : length new.counts.items ≡ length old.counts.items
    size = ap length counts ∙ length-set old.counts.items b count

    here : (c : ℕ) → b ≡ c → count_of new c ≡ count
    here c e = ap (λ xs. get_or xs c 0) counts ∙ ap (λ q. get_or (set old.counts.items b count) q 0) (sym e) ∙ get_or-set_same old.counts.items b count 0 within

    apart : (c : ℕ) → b ≢ c → count_of new c ≡ count_of old c
    apart c ne = ap (λ xs. get_or xs c 0) counts ∙ get_or-set_other old.counts.items b c count 0 (λ f. ne (sym f))

-- the block isn't in the set, and stays out of it
pub sets_none : (bits : Bits) (b : ℕ) → IsBits bits → has bits b ≡ false → Sets bits bits b false
sets_none bits b sound none = record { sound = sound; bound = refl; here = none; others = λ k ne. refl }

-- the places of a row have changed, and the count of its sites
pub row_set : (old mid new : SiteLists) (b count : ℕ) (row : List Site) → IsLists old → mid.width ≡ old.width → mid.counts ≡ old.counts → SetsCount mid new b count → length mid.sites.items ≡ length old.sites.items → take count (drop (b * old.width) mid.sites.items) ≡ row → ((c i : ℕ) → b ≢ c → i < old.width → get_or mid.sites.items (c * old.width + i) no_site ≡ get_or old.sites.items (c * old.width + i) no_site) → SetsRow old new b row
row_set old mid new b count row sound width counts sets long here others = record {
  sound = sets.sound;
  width = sets.width ∙ width;
  size = sets.size ∙ ap (λ v. length v.items) counts;
  rows = λ c.
      ⊎_elim
      (λ e.
      same c
      ∙ ap (λ n. take n (drop (c * old.width) mid.sites.items)) (sets.counts c ∙ ap (λ v. cond v count (count_of mid c)) (same_test b c e))
      ∙ ap (λ q. take count (drop (q * old.width) mid.sites.items)) (sym e)
      ∙ here
      ∙ ap (λ v. cond v row (row_of old c)) (sym (same_test b c e)))
      (λ ne.
      same c
      ∙ ap (λ n. take n (drop (c * old.width) mid.sites.items))
      (sets.counts c ∙ ap (λ v. cond v count (count_of mid c)) (apart_test b c ne) ∙ ap (λ v. get_or v.items c 0) counts)
      ∙ row_stays old mid.sites.items c sound long (λ i lt. others c i ne lt)
      ∙ ap (λ v. cond v row (row_of old c)) (sym (apart_test b c ne)))
      (cases_eq b c);
}
  where
    same : (c : ℕ) → row_of new c ≡ take (count_of new c) (drop (c * old.width) mid.sites.items)
    same c =
        ap (λ w. take (count_of new c) (drop (c * w) new.sites.items)) (sets.width ∙ width)
        ∙ ap (λ v. take (count_of new c) (drop (c * old.width) v.items)) sets.sites

-- a site is written behind the last of a row
pub row_pushed : (old mid new : SiteLists) (b : ℕ) (site : Site) → IsLists old → b < length old.counts.items → count_of old b < old.width → mid.width ≡ old.width → mid.counts ≡ old.counts → mid.sites.items ≡ set old.sites.items (b * old.width + count_of old b) site → SetsCount mid new b (count_of old b + 1) → Appends old new b site
row_pushed old mid new b site sound within room width counts sites sets =
    row_set old mid new b (count_of old b + 1) (row_of old b ++ site ∷ []) sound width counts sets
    (ap length sites ∙ length-set old.sites.items place site)
    (ap (λ xs. take (count_of old b + 1) (drop (b * old.width) xs)) sites
    ∙ run_push old.sites.items (b * old.width) (count_of old b) (count_of old b + 1) site (omega (arith, row_within old b sound within, room)) refl)
    (λ c i ne lt.
    ap (λ xs. get_or xs (c * old.width + i) no_site) sites
    ∙ get_or-set_other old.sites.items place (c * old.width + i) site no_site
    (λ e. ⊎_elim (λ before. absurd (omega (arith, before, e))) (λ behind. absurd (omega (arith, behind, e, room))) (outside old.width b c i ne lt)))
  where
    place : ℕ
    place = b * old.width + count_of old b

-- the sites of a row that are on a boundary leave it
pub row_kept : (old mid new : SiteLists) (b kept s : ℕ) → IsLists old → b < length old.counts.items → mid.width ≡ old.width → mid.counts ≡ old.counts → KeepsOff old.sites.items mid.sites.items (b * old.width) (count_of old b) kept s → SetsCount mid new b kept → SetsRow old new b (sites_off s (row_of old b))
row_kept old mid new b kept s sound within width counts keeps sets =
    row_set old mid new b kept (sites_off s (row_of old b)) sound width counts sets keeps.same_length keeps.row
    (λ c i ne lt.
    keeps.others (c * old.width + i) no_site
    (⊎_elim (λ before. inl before) (λ behind. inr (omega (arith, behind, sound.counts b))) (outside old.width b c i ne lt)))

-- an item of a list, whatever stands for one past its end
pub at_default : (xs : List ℕ) (i x : ℕ) → i < length xs → x ≡ get_or xs i x → x ≡ get_or xs i 0
at_default xs i x lt is = is ∙ same_some (get_or xs i x) (get_or xs i 0) (sym (slice_get-get_or xs i x lt) ∙ slice_get-get_or xs i 0 lt)

module _ (old mid new : SiteLists) (b start count : ℕ) (sound : IsLists old) (within : b < length old.counts.items) (starts : start ≡ b * old.width) (counted : count ≡ count_of old b) (width : mid.width ≡ old.width) (counts : mid.counts ≡ old.counts) where
  pub row_pushed_at : (site : Site) → length (row_of old b) < old.width → mid.sites.items ≡ set old.sites.items (start + count) site → SetsCount mid new b (count + 1) → Appends old new b site
  row_pushed_at site room sites sets =
      row_pushed old mid new b site sound within (omega (arith, room, length_row old b sound)) width counts
      (sites ∙ ap (λ n. set old.sites.items n site) (omega (arith, starts, counted)))
      (subst (λ n. SetsCount mid new b (n + 1)) counted sets)

  pub row_kept_at : (kept s : ℕ) → KeepsOff old.sites.items mid.sites.items start count kept s → SetsCount mid new b kept → SetsRow old new b (sites_off s (row_of old b))
  row_kept_at kept s keeps sets =
      row_kept old mid new b kept s sound within width counts
      (subst (λ n. KeepsOff old.sites.items mid.sites.items (b * old.width) n kept s) counted
      (subst (λ n. KeepsOff old.sites.items mid.sites.items n count kept s) starts keeps))
      sets

-- ---- one site after another is kept or not

module _ (old now : List Site) (start place kept s : ℕ) (site : Site) (lt : start + place < length old) (long : length now ≡ length old) (few : kept ≤ place) (is : site ≡ get_or old (start + place) site) (row : take kept (drop start now) ≡ sites_off s (take place (drop start old))) where
  next : take (suc place) (drop start old) ≡ take place (drop start old) ++ site ∷ []
  next =
      take-suc (drop start old) place site (omega (arith, length-drop start old, lt))
      ∙ ap (λ x. take place (drop start old) ++ x ∷ []) (get_or-drop start old place site ∙ sym is)

  off_next : (n : ℕ) → n ≡ place + 1 → sites_off s (take n (drop start old)) ≡ sites_off s (take place (drop start old)) ++ sites_off s (site ∷ [])
  off_next n e =
      let step : n ≡ suc place = omega (arith, e) in
      ap (λ i. sites_off s (take i (drop start old))) step
      ∙ ap (sites_off s) next
      ∙ filter-append (λ (x : Site). not (x.boundary == s)) (take place (drop start old)) (site ∷ [])

  pub keep_step : (n m : ℕ) → (site.boundary == s) ≡ false → n ≡ place + 1 → m ≡ kept + 1 → take m (drop start (set now (start + kept) site)) ≡ sites_off s (take n (drop start old))
  keep_step n m apart e f =
      run_push now start kept m site (omega (arith, long, lt, few)) f
      ∙ ap (λ xs. xs ++ site ∷ []) row
      ∙ sym (off_next n e ∙ ap (λ b. sites_off s (take place (drop start old)) ++ cond (not b) (site ∷ []) []) apart)

  pub keep_others : (n : ℕ) → n ≡ place + 1 → ((j : ℕ) (d : Site) → (j < start) ⊎ (start + place ≤ j) → get_or now j d ≡ get_or old j d) → (j : ℕ) (d : Site) → (j < start) ⊎ (start + n ≤ j) → get_or (set now (start + kept) site) j d ≡ get_or old j d
  keep_others n e same j d (inl before) = get_or-set_other now (start + kept) j site d (λ f. absurd (omega (arith, f, before))) ∙ same j d (inl before)
  keep_others n e same j d (inr behind) = get_or-set_other now (start + kept) j site d (λ f. absurd (omega (arith, f, behind, e, few))) ∙ same j d (inr (omega (arith, behind, e)))

  pub leave_others : (n : ℕ) → n ≡ place + 1 → ((j : ℕ) (d : Site) → (j < start) ⊎ (start + place ≤ j) → get_or now j d ≡ get_or old j d) → (j : ℕ) (d : Site) → (j < start) ⊎ (start + n ≤ j) → get_or now j d ≡ get_or old j d
  leave_others n e same j d (inl before) = same j d (inl before)
  leave_others n e same j d (inr behind) = same j d (inr (omega (arith, behind, e)))

  pub leave_step : (n : ℕ) → (site.boundary == s) ≡ true → n ≡ place + 1 → take kept (drop start now) ≡ sites_off s (take n (drop start old))
  leave_step n on e =
      row
      ∙ sym (off_next n e ∙ ap (λ b. sites_off s (take place (drop start old)) ++ cond (not b) (site ∷ []) []) on ∙ append-nil (sites_off s (take place (drop start old))))

-- ---- blocks with more than one site

pub unspread_of : (lists : SiteLists) → IsLists lists → ((b : ℕ) → has lists.spread b ≡ false) → IsUnspread lists
unspread_of lists sound none b = omega (arith, length_row lists b sound, at_most (count_of lists b) (sym (sound.spread b) ∙ none b))
  where
    at_most : (n : ℕ) → nat_lt 1 n ≡ false → n ≤ 1
    at_most n e = grind (arith, nat_tests)

pub first_spread_of : (lists : SiteLists) (b : ℕ) → IsLists lists → IsLeast lists.spread b → IsFirstSpread lists b
first_spread_of lists b sound least = record {
  spread = omega (arith, length_row lists b sound, more (count_of lists b) (sym (sound.spread b) ∙ least.here));
  least = λ c some. least.least c (sound.spread c ∙ test (count_of lists c) (omega (arith, length_row lists c sound, some)));
}
  where
    more : (n : ℕ) → nat_lt 1 n ≡ true → 1 < n
    more n e = grind (arith, nat_tests)

    test : (n : ℕ) → 1 < n → nat_lt 1 n ≡ true
    test n lt = grind (arith, nat_tests)

pub spread_by : (lists : SiteLists) (r : Option ℕ) → IsLists lists → MatchOption r ((b : ℕ) → has lists.spread b ≡ false) (IsLeast lists.spread) → MatchOption r (IsUnspread lists) (IsFirstSpread lists)
spread_by lists None sound none = unspread_of lists sound none
spread_by lists (Some b) sound least = first_spread_of lists b sound least

-- ---- the first lists

pub lists_bare : (lists : SiteLists) (blocks : ℕ) → blocks ≤ 2 ^ 20 → lists.width ≤ 16 → length lists.sites.items ≡ blocks * lists.width → length lists.counts.items ≡ blocks → ((b : ℕ) → count_of lists b ≡ 0) → IsBits lists.spread → lists.spread.bound ≡ blocks → ((b : ℕ) → has lists.spread b ≡ false) → IsBare blocks lists.width lists
lists_bare lists blocks small narrow sites counts none bits bound empty = record {
  sound = record {
    small = omega (arith, counts, small);
    narrow = narrow;
    size = sites ∙ ap (λ n. n * lists.width) (sym counts);
    counts = λ b. omega (arith, none b);
    bits = bits;
    bound = bound ∙ sym counts;
    spread = λ b. empty b ∙ sym (ap (nat_lt 1) (none b));
  };
  width = refl;
  size = counts;
  rows = λ b. ap (λ c. take c (drop (b * lists.width) lists.sites.items)) (none b);
}
