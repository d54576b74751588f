-- What was fetched, each block once.
use Rattle.std.proofs.Common.{◌≡◌, ◌≢◌, ◌∙◌, ℕ, ◌+◌, ◌<◌, ◌≤◌, List, [], ◌∷◌, ◌++◌, length, inl, inr, Option, Some, None, IfSome, Result, Ok, Err, IfOk, OnOk, refl, sym, ap, subst, arith, Contains}
use Rattle.std.proofs.lemmas.Bool.{false≢true}
use Rattle.dg_io.specs.declared.views.View.{Ghosts}
use Rattle.dg_model.specs.Rereads.{ClaimPlace}
use Rattle.ufs_model.specs.Claims.{source_fragments}
use Rattle.ufs_model.specs.declared.claims.ClaimSource.{ClaimSource}
use Rattle.dg_infer.specs.Claimed.{IsClaimedBy}
use Rattle.dg_infer.specs.Claimed.{IsOnce}
use Rattle.dg_infer.proofs.ListLaws.{contains_cons, contains_front, contains_none, once_both}
use Rattle.dg_infer.specs.Fetched.{Begins, FetchesFresh, FetchesOnce, FetchesPlaces, IsBegun, IsNewAt, fragments_of}
use Rattle.dg_infer.proofs.ChangeLaws.{claimed_right}
use Rattle.dg_infer.specs.AtHand.{OnVolumes}
use Rattle.dg_infer.specs.Changes.{IsReady, IsRightDownTo}
use Rattle.dg_infer.specs.Places.{IsClaimedReady}
use Rattle.dg_infer.specs.Areas.{IsAreaRest, IsGroupRest, IsInGroupBlock, IsRest}
use Rattle.ufs_model.specs.Geometries.{cgstart}
use Rattle.ufs_model.specs.declared.geometries.Geometry.{Geometry}
use Rattle.dg_infer.specs.Watches.{IsDistinct, IsWatched, touch_at}
use Rattle.dg_infer.specs.declared.watches.Touch.{Touch}

pub fetches_none : {S : Type 0} (fetched : S → List ℕ → S → Type 0) (kind : ℕ → Type 0) (s : S) → fetched s [] s → FetchesOnce fetched kind s s
fetches_none fetched kind s none = record { blocks = []; were = none; once = tt; each = λ b has. absurd (contains_none b has) }

pub fetches_one : {S : Type 0} (fetched : S → List ℕ → S → Type 0) (kind : ℕ → Type 0) (b : ℕ) (s t : S) → fetched s (b ∷ []) t → kind b → FetchesOnce fetched kind s t
fetches_one fetched kind b s t one is = record {
  blocks = b ∷ [];
  were = one;
  once = (contains_none b, tt);
  each = λ x has. elim ((contains_cons b [] x).0 has) [ inl e ↦ subst kind (sym e) is | inr h ↦ absurd (contains_none x h) ];
}

pub fetches_both : {S : Type 0} (fetched : S → List ℕ → S → Type 0) (first second all : ℕ → Type 0) (s t u : S)
    → ((s t u : S) (x y : List ℕ) → fetched s x t → fetched t y u → fetched s (x ++ y) u)
    → ((b : ℕ) → first b → all b) → ((b : ℕ) → second b → all b) → ((b : ℕ) → first b → second b → ⊥)
    → FetchesOnce fetched first s t → FetchesOnce fetched second t u → FetchesOnce fetched all s u
fetches_both fetched first second all s t u both one_in two_in apart one two = record {
  blocks = one.blocks ++ two.blocks;
  were = both s t u one.blocks two.blocks one.were two.were;
  once = once_both one.blocks two.blocks one.once two.once (λ b f g. apart b (one.each b f) (two.each b g));
  each = λ b has. elim (contains_front one.blocks two.blocks b has) [ inl h ↦ one_in b (one.each b h) | inr h ↦ two_in b (two.each b h) ];
}

pub fetches_along : {S : Type 0} (fetched : S → List ℕ → S → Type 0) (kind all : ℕ → Type 0) (s t : S) → ((b : ℕ) → kind b → all b) → FetchesOnce fetched kind s t → FetchesOnce fetched all s t
fetches_along fetched kind all s t along one = record { blocks = one.blocks; were = one.were; once = one.once; each = λ b has. along b (one.each b has) }

pub begins_more : (touches : List Touch) (claimed : ClaimSource → List ℕ) (level block few count b : ℕ) → few ≤ count → Begins touches claimed level block few b → Begins touches claimed level block count b
begins_more touches claimed level block few count b le is = record {
  index = is.index;
  inside = let x = is.inside in omega arith;
  at = is.at;
  on = is.on;
  none = is.none;
  some = is.some;
  other = is.other;
}

pub begins_one : (touches : List Touch) (touch : Touch) (first now : ClaimSource → List ℕ) (level block k count b : ℕ) → k < count → touch ≡ touch_at touches k
    → (IsClaimedBy now level touch.fragment → IsClaimedBy first level touch.fragment) → IsNewAt touch now level block b → Begins touches first level block count b
begins_one touches touch first now level block k count b more same along h = record {
  index = k;
  inside = more;
  at = ap (λ (t : Touch). t.fragment) (sym same) ∙ sym h.at;
  on = ap (λ (t : Touch). t.level) (sym same) ∙ h.on;
  none = ap (λ (t : Touch). t.was) (sym same) ∙ h.none;
  some = subst (λ (x : ℕ). IsClaimedBy first level x) (sym h.at) (along h.some);
  other = subst (λ (x : ℕ). x ≢ block) (sym h.at) h.other;
}

pub begins_apart : (touches : List Touch) (touch : Touch) (first now : ClaimSource → List ℕ) (level block k b : ℕ) → IsDistinct touches → k < length touches → touch ≡ touch_at touches k
    → Begins touches first level block k b → IsNewAt touch now level block b → ⊥
begins_apart touches touch first now level block k b distinct inside same before h =
    distinct.apart before.index k before.inside inside (before.at ∙ h.at ∙ ap (λ (t : Touch). t.fragment) same) (before.on ∙ sym h.on ∙ ap (λ (t : Touch). t.level) same)

pub fetches_more : {S : Type 0} (fetched : S → List ℕ → S → Type 0) (touches : List Touch) (touch : Touch) (first now : ClaimSource → List ℕ) (level block k count : ℕ) (s t u : S)
    → ((s t u : S) (x y : List ℕ) → fetched s x t → fetched t y u → fetched s (x ++ y) u) → k < count → k < length touches → touch ≡ touch_at touches k → IsDistinct touches
    → (IsClaimedBy now level touch.fragment → IsClaimedBy first level touch.fragment) → FetchesOnce fetched (Begins touches first level block k) s t
    → FetchesOnce fetched (IsNewAt touch now level block) t u → FetchesOnce fetched (Begins touches first level block count) s u
fetches_more fetched touches touch first now level block k count s t u both more inside same distinct along one two =
    fetches_both fetched (Begins touches first level block k) (IsNewAt touch now level block) (Begins touches first level block count) s t u both
    (λ b h. begins_more touches first level block k count b (omega (arith, more)) h) (λ b h. begins_one touches touch first now level block k count b more same along h)
    (λ b f h. begins_apart touches touch first now level block k b distinct inside same f h) one two

-- ---- fragments with their levels

abbrev places_at : ℕ → List ℕ → List ClaimPlace
places_at level [] = []
places_at level (b ∷ bs) = (record { fragment = b; level = level }) ∷ places_at level bs

places_blocks : (level : ℕ) (bs : List ℕ) → fragments_of (places_at level bs) ≡ bs
places_blocks level [] = refl
places_blocks level (b ∷ bs) = ap (λ xs. b ∷ xs) (places_blocks level bs)

both_blocks : (ps qs : List ClaimPlace) → fragments_of (ps ++ qs) ≡ fragments_of ps ++ fragments_of qs
both_blocks [] qs = refl
both_blocks (p ∷ ps) qs = ap (λ xs. p.fragment ∷ xs) (both_blocks ps qs)

places_have : (level : ℕ) (bs : List ℕ) (place : ClaimPlace) → Contains (places_at level bs) place → Contains bs place.fragment × (place.level ≡ level)
places_have level [] place has = absurd (contains_none place has)
places_have level (x ∷ bs) place has = elim ((contains_cons (record { fragment = x; level = level }) (places_at level bs) place).0 has) [
  | inl e ↦ ((contains_cons x bs place.fragment).1 (inl (ap (λ (p : ClaimPlace). p.fragment) e)), ap (λ (p : ClaimPlace). p.level) e)
  | inr h ↦ let rest = places_have level bs place h in ((contains_cons x bs place.fragment).1 (inr (rest.0)), rest.1)
]

places_once : (level : ℕ) (bs : List ℕ) → IsOnce bs → IsOnce (places_at level bs)
places_once level [] once = tt
places_once level (b ∷ bs) once = (λ has. once.0 ((places_have level bs (record { fragment = b; level = level }) has).0), places_once level bs (once.1))

pub places_none : {S : Type 0} (fetched : S → List ℕ → S → Type 0) (kind : ClaimPlace → Type 0) (s : S) → fetched s [] s → FetchesPlaces fetched kind s s
places_none fetched kind s none = record { places = []; were = none; once = tt; each = λ place has. absurd (contains_none place has) }

pub places_along : {S : Type 0} (fetched : S → List ℕ → S → Type 0) (kind all : ClaimPlace → Type 0) (s t : S) → ((place : ClaimPlace) → kind place → all place)
    → FetchesPlaces fetched kind s t → FetchesPlaces fetched all s t
places_along fetched kind all s t along one = record { places = one.places; were = one.were; once = one.once; each = λ place has. along place (one.each place has) }

-- places of the levels down to one, and then those of the next
begun_more : {S : Type 0} (fetched : S → List ℕ → S → Type 0) (before now : ClaimSource → List ℕ) (First Next : ClaimPlace → Type 0) (touches : List Touch) (level less block : ℕ) (s t u : S)
    → ((s t u : S) (x y : List ℕ) → fetched s x t → fetched t y u → fetched s (x ++ y) u) → less < level → IsWatched before now touches
    → ((place : ClaimPlace) → First place → Next place) → ((f : ℕ) → IsClaimedBy now level f → Next (record { fragment = f; level = level }))
    → FetchesPlaces fetched (IsBegun before First level block) s t → FetchesOnce fetched (Begins touches now level block (length touches)) t u
    → FetchesPlaces fetched (IsBegun before Next less block) s u
begun_more fetched before now First Next touches level less block s t u both lower watched along here one two = record {
  places = one.places ++ places_at level two.blocks;
  were = subst (λ (xs : List ℕ). fetched s xs u) (sym (both_blocks one.places (places_at level two.blocks) ∙ ap (λ xs. fragments_of one.places ++ xs) (places_blocks level two.blocks)))
      (both s t u (fragments_of one.places) two.blocks one.were two.were);
  once = once_both one.places (places_at level two.blocks) one.once (places_once level two.blocks two.once)
      (λ p f b. let high = (one.each p f).above in let on = (places_have level two.blocks p b).1 in omega (arith, high, on));
  each = λ place has. elim (contains_front one.places (places_at level two.blocks) place has) [
    | inl f ↦
        let old = one.each place f in
        let high = old.above in
        record { above = omega (arith, high, lower); other = old.other; none = old.none; some = along place old.some }
    | inr b ↦
        let has_level = places_have level two.blocks place b in
        let begins = two.each place.fragment (has_level.0) in
        record {
          above = (let on = has_level.1 in omega (arith, on, lower));
          other = begins.other;
          none = λ had. false≢true (sym begins.none ∙ (watched.known begins.index begins.inside).1
              (subst (λ (n : ℕ). IsClaimedBy before n ((touch_at touches begins.index).fragment)) (has_level.1 ∙ sym begins.on)
              (subst (λ (x : ℕ). IsClaimedBy before place.level x) (sym begins.at) had)));
          some = subst (λ (n : ℕ). Next (record { fragment = place.fragment; level = n })) (sym (has_level.1)) (here place.fragment begins.some);
        }
  ];
}

-- the same of a view, by what is right down to the level
pub levels_more : {S : Type 0} (view : Ghosts S) → ((s t u : S) (x y : List ℕ) → view.fetched s x t → view.fetched t y u → view.fetched s (x ++ y) u)
    → (before first now : ClaimSource → List ℕ) (watched touches : List Touch) (level less : ℕ) (g : Geometry) (block : ℕ) (bytes : List ℕ) (old middle new : S)
    → less < level → IsWatched before now touches → (view.tells new → view.tells middle)
    → OnVolumes view old middle block bytes (λ v. (sources before : ClaimSource → List ℕ) → IsReady (source_fragments g v) sources before first block watched
    → IsRightDownTo (source_fragments g v) before now level)
    → FetchesPlaces view.fetched (IsBegun before (IsClaimedReady view old middle g block bytes first watched) level block) old middle
    → FetchesOnce view.fetched (Begins touches now level block (length touches)) middle new
    → FetchesPlaces view.fetched (IsBegun before (IsClaimedReady view old new g block bytes first watched) less block) old new
levels_more view both before first now watched touches level less g block bytes old middle new lower is told right one two =
    begun_more view.fetched before now (IsClaimedReady view old middle g block bytes first watched) (IsClaimedReady view old new g block bytes first watched) touches level less block old middle new
    both lower is (λ place claimed tells. claimed (told tells))
    (λ f at tells v holds has ready. claimed_right (source_fragments g v) (ready.1) now level f (right (told tells) v holds has (ready.0) (ready.1) (ready.2)) (omega (arith, lower)) at) one two

pub begun_cut : {S : Type 0} (fetched : S → List ℕ → S → Type 0) (before : ClaimSource → List ℕ) (Claims : ClaimPlace → Type 0) (most less block : ℕ) (s t : S) → less ≤ most
    → FetchesPlaces fetched (IsBegun before Claims most block) s t → FetchesPlaces fetched (IsBegun before Claims less block) s t
begun_cut fetched before Claims most less block s t le one =
    places_along fetched (IsBegun before Claims most block) (IsBegun before Claims less block) s t
    (λ place h. record { above = (let high = h.above in omega (arith, high, le)); other = h.other; none = h.none; some = h.some }) one

pub begun_along : {S : Type 0} (fetched : S → List ℕ → S → Type 0) (before : ClaimSource → List ℕ) (Claims Others : ClaimPlace → Type 0) (most block : ℕ) (s t : S)
    → ((place : ClaimPlace) → Claims place → Others place) → FetchesPlaces fetched (IsBegun before Claims most block) s t → FetchesPlaces fetched (IsBegun before Others most block) s t
begun_along fetched before Claims Others most block s t along one =
    places_along fetched (IsBegun before Claims most block) (IsBegun before Others most block) s t
    (λ place h. record { above = h.above; other = h.other; none = h.none; some = along place h.some }) one

-- where nothing was claimed before, all is new
pub begun_fresh : {S : Type 0} (fetched : S → List ℕ → S → Type 0) (before : ClaimSource → List ℕ) (Claims : ClaimPlace → Type 0) (most block : ℕ) (s t : S)
    → FetchesPlaces fetched (IsBegun before Claims most block) s t → FetchesPlaces fetched (IsBegun (λ source. []) Claims most block) s t
begun_fresh fetched before Claims most block s t one =
    places_along fetched (IsBegun before Claims most block) (IsBegun (λ source. []) Claims most block) s t
    (λ place h. record { above = h.above; other = h.other; none = λ had. contains_none place.fragment had.claim; some = h.some }) one

pub fresh_along : {S : Type 0} (fetched : S → List ℕ → S → Type 0) (g : Geometry) (block : ℕ) (Claims Others : ClaimPlace → Type 0) (s t : S)
    → ((place : ClaimPlace) → Claims place → Others place) → FetchesFresh fetched g block Claims s t → FetchesFresh fetched g block Others s t
fresh_along fetched g block Claims Others s t along one =
    record { middle = one.middle; areas = one.areas; levels = begun_along fetched (λ source. []) Claims Others 0 block one.middle t along one.levels }

-- ---- blocks beside one that is at hand

pub rest_more : {S : Type 0} (fetched : S → List ℕ → S → Type 0) (a i count block : ℕ) (s t u : S) → ((s t u : S) (x y : List ℕ) → fetched s x t → fetched t y u → fetched s (x ++ y) u)
    → i < count → FetchesOnce fetched (IsRest a i block) s t → FetchesOnce fetched (λ b. (b ≡ a + i) × (b ≢ block)) t u → FetchesOnce fetched (IsRest a count block) s u
rest_more fetched a i count block s t u both more one two =
    fetches_both fetched (IsRest a i block) (λ b. (b ≡ a + i) × (b ≢ block)) (IsRest a count block) s t u both
    (λ b h. record { from = h.from; to = (let high = h.to in omega (arith, high, more)); other = h.other })
    (λ b h. record { from = (let at = h.0 in omega (arith, at)); to = (let at = h.0 in omega (arith, at, more)); other = h.1 })
    (λ b f h. let high = f.to in let at = h.0 in omega (arith, high, at)) one two

pub group_fetched : {S : Type 0} (fetched : S → List ℕ → S → Type 0) (g : Geometry) (c first block : ℕ) (s t : S) → c < g.ncg → IsInGroupBlock g c block → first ≡ cgstart g c + g.cblkno
    → FetchesOnce fetched (IsRest first g.frag block) s t → FetchesOnce fetched (IsGroupRest g block) s t
group_fetched fetched g c first block s t small in_block is one =
    fetches_along fetched (IsRest first g.frag block) (IsGroupRest g block) s t
    (λ b h. record { group = c; within = small; one = in_block; rest = subst (λ (a : ℕ). IsRest a g.frag block b) is h }) one

pub areas_cut : {S : Type 0} (fetched : S → List ℕ → S → Type 0) (g : Geometry) (less end block : ℕ) (s t : S) → less ≤ end → FetchesOnce fetched (IsAreaRest g less block) s t
    → FetchesOnce fetched (IsAreaRest g end block) s t
areas_cut fetched g less end block s t le one =
    fetches_along fetched (IsAreaRest g less block) (IsAreaRest g end block) s t (λ b h. record { before = (let high = h.before in omega (arith, high, le)); other = h.other; area = h.area }) one

pub areas_more : {S : Type 0} (fetched : S → List ℕ → S → Type 0) (g : Geometry) (place end block : ℕ) (s t u : S) → ((s t u : S) (x y : List ℕ) → fetched s x t → fetched t y u → fetched s (x ++ y) u)
    → place < end → FetchesOnce fetched (IsAreaRest g place block) s t → FetchesOnce fetched (λ b. (place ≤ b) × IsAreaRest g (place + 1) block b) t u
    → FetchesOnce fetched (IsAreaRest g end block) s u
areas_more fetched g place end block s t u both more one two =
    fetches_both fetched (IsAreaRest g place block) (λ b. (place ≤ b) × IsAreaRest g (place + 1) block b) (IsAreaRest g end block) s t u both
    (λ b h. record { before = (let high = h.before in omega (arith, high, more)); other = h.other; area = h.area })
    (λ b h. let rest = h.1 in record { before = (let high = rest.before in omega (arith, high, more)); other = rest.other; area = rest.area })
    (λ b f h. let high = f.before in let low = h.0 in omega (arith, high, low)) one two

-- ---- answers of calls

pub ok_map : {A E : Type 0} (r : Result A E) (P Q : A → Type 0) → ((a : A) → P a → Q a) → IfOk r P → IfOk r Q
ok_map (Ok a) P Q f h = f a h
ok_map (Err e) P Q f h = tt

pub some_map : {A : Type 0} (o : Option A) (P Q : A → Type 0) → ((a : A) → P a → Q a) → IfSome o P → IfSome o Q
some_map (Some a) P Q f h = f a h
some_map None P Q f h = tt

pub on_ok_map : {A E : Type 0} (r : Result A E) {P Q : Type 0} → (P → Q) → OnOk r P → OnOk r Q
on_ok_map (Ok a) f h = f h
on_ok_map (Err e) f h = tt

pub on_ok_any : {A E : Type 0} (r : Result A E) {P : Type 0} → P → OnOk r P
on_ok_any (Ok a) p = p
on_ok_any (Err e) p = tt
