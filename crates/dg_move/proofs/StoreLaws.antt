-- What moves leave of a store, one after another.
use Rattle.std.proofs.Common.{◌≡◌, ◌≢◌, ◌<◌, ◌≤◌, ◌+◌, ◌&&◌, ◌⊎◌, ℕ, Bool, true, false, List, [], ◌∷◌, ◌++◌, length, inl, inr, refl, sym, ◌∙◌, ap, subst, arith}
use Rattle.std.specs.Prelude.{◌↔◌, Option, Some, None, Result, Ok, Err, IfNone, IfSome, OnErr, nat_lt, not}
use Rattle.std.specs.List.{Contains, range_with_len}
use Rattle.std.proofs.lemmas.Bool.{and_parts, cases_eq, false≢true, lt-ltb, ltb-true}
use Rattle.std.proofs.lemmas.List.{get_or-set_same, get_or-set_other}
use Rattle.std.proofs.lemmas.List.Elements.{Contains-push}
use Rattle.std.proofs.lemmas.List.Folds.{list_any_at}
use Rattle.dg_io.specs.declared.outside.Rack.{Ghosts}
use Rattle.dg_model.specs.Members.{is_lost}
use Rattle.dg_model.specs.Moves.{all_done, give_ups, is_missing, spare}
use Rattle.dg_model.specs.Sites.{all_lost, has_site, is_gone}
use Rattle.dg_model.specs.States.{has_lost}
use Rattle.dg_model.specs.Tables.{IsTable, Table, count_on, is_on, put_site, sites_in, sites_off, without_site}
use Rattle.dg_model.specs.declared.members.MemberState.{MemberState}
use Rattle.dg_model.specs.declared.shapes.Shape.{Shape}
use Rattle.dg_model.specs.declared.sites.Site.{Site}
use Rattle.dg_model.proofs.ActionLists.{all_both, tidying_below, tidying_more}
use Rattle.dg_model.proofs.ClaimSearch.{in_range}
use Rattle.dg_model.proofs.SiteLists.{count_on-push}
use Rattle.dg_model.proofs.SpareSteps.{DropsSpare}
use Rattle.dg_store.specs.Answers.{SameWritten}
use Rattle.dg_store.specs.Leaves.{Leaves}
use Rattle.dg_store.specs.ReadLaws.{keeps_both, keeps_none, tells_good, told_all}
use Rattle.dg_store.specs.Stores.{IsSound, KeepsBlocks, Tells, members_of, rack_of, shape_of, table_of}
use Rattle.dg_store.specs.declared.store.PlaceAnswer.{PlaceAnswer}
use Rattle.dg_store.specs.declared.store.PlaceAnswer.TheVariants.{Placed, Full, Gone, Lost}
use Rattle.dg_store.specs.declared.store.Store.{Store}
use Rattle.dg_move.specs.Stores.{GivesUpOnly, KeepsMet, MovesOn}

-- ---- rows of a table

pub put_here : (table : Table) (b : ℕ) (site : Site) → b < length table.rows → sites_in (put_site table b site) b ≡ sites_in table b ++ site ∷ []
put_here table b site within = get_or-set_same table.rows b (sites_in table b ++ site ∷ []) [] within

pub put_other : (table : Table) (b c : ℕ) (site : Site) → c ≢ b → sites_in (put_site table b site) c ≡ sites_in table c
put_other table b c site other = get_or-set_other table.rows b c (sites_in table b ++ site ∷ []) [] other

pub without_here : (table : Table) (b s : ℕ) → b < length table.rows → sites_in (without_site table b s) b ≡ sites_off s (sites_in table b)
without_here table b s within = get_or-set_same table.rows b (sites_off s (sites_in table b)) [] within

pub without_other : (table : Table) (b s c : ℕ) → c ≢ b → sites_in (without_site table b s) c ≡ sites_in table c
without_other table b s c other = get_or-set_other table.rows b c (sites_off s (sites_in table b)) [] other

-- ---- losses

pub lost_from : (shape : Shape) (members : ℕ → MemberState) (s : ℕ) → s < shape.b → is_lost members s ≡ true → has_lost shape members ≡ true
lost_from shape members s within lost =
    let there = in_range shape.b s within in
    list_any_at (λ t. is_lost members t) (range_with_len 0 shape.b) there.0 s there.1 (ap (is_lost members) there.2 ∙ lost)

-- a block that is gone has a site on a lost boundary
first_lost : (b : ℕ) (members : ℕ → MemberState) (sites : List Site) → ((site : Site) → Contains sites site → site.boundary < b)
    → has_site sites ≡ true → all_lost members sites ≡ true → (s : ℕ) × (s < b) × (is_lost members s ≡ true)
first_lost b members [] within has lost = absurd (false≢true has)
first_lost b members (x ∷ xs) within has lost =
    (x.boundary, within x (0, omega arith, refl), (and_parts (is_lost members x.boundary) (all_lost members xs) lost).0)

pub gone_lost : (table : Table) (members : ℕ → MemberState) (b : ℕ) → IsTable table → is_gone table members b ≡ true → has_lost table.shape members ≡ true
gone_lost table members b ok gone =
    let parts = and_parts (has_site (sites_in table b)) (all_lost members (sites_in table b)) gone in
    let first = first_lost table.shape.b members (sites_in table b) (λ site there. ok.boundaries b site.boundary site.slot there) parts.0 parts.1 in
    lost_from table.shape members first.0 first.1 first.2

-- where no member changed, none is lost that wasn't
pub same_lost : (was now : Shape) (old new : ℕ → MemberState) → now ≡ was → ((q : ℕ) → new q ≡ old q) → has_lost now new ≡ has_lost was old
same_lost was now old new shape same =
    ap (λ (x : Shape). has_lost x new) shape ∙ ap (λ (m : ℕ → MemberState). has_lost was m) (λ i q. same q i)

-- a copy failed
abbrev pub IsFailed : PlaceAnswer → Type 0
IsFailed answer = (answer ≡ Gone) ⊎ ((s : ℕ) × (answer ≡ Lost s))

pub not_placed : (answer : PlaceAnswer) → IsFailed answer → answer ≢ Placed
not_placed answer (inl gone) e = cc
not_placed answer (inr (s, lost)) e = cc

pub not_full : (answer : PlaceAnswer) → IsFailed answer → answer ≢ Full
not_full answer (inl gone) e = cc
not_full answer (inr (s, lost)) e = cc

-- its block is gone, or its boundary is lost
pub cause_of : (answer : PlaceAnswer) (table : Table) (members : ℕ → MemberState) (b t : ℕ) → IsFailed answer
    → (answer ≢ Full → (answer ≡ Gone) ↔ (is_gone table members b ≡ true))
    → (answer ≢ Full → answer ≢ Gone → (answer ≡ Lost t) ↔ (is_lost members t ≡ true))
    → ((s : ℕ) → answer ≡ Lost s → s ≡ t)
    → (is_gone table members b ≡ true) ⊎ (is_lost members t ≡ true)
cause_of answer table members b t (inl is) gone lost other = inl ((gone (not_full answer (inl is))).0 is)
cause_of answer table members b t (inr (s, is)) gone lost other =
    let named : answer ≡ Lost t = is ∙ ap Lost (other s is) in
    let apart : answer ≢ Gone = λ e. cc in
    inr ((lost (not_full answer (inr (s, is))) apart).0 named)

pub cause_lost : (table : Table) (members : ℕ → MemberState) (b t : ℕ) → IsTable table → t < table.shape.b
    → (is_gone table members b ≡ true) ⊎ (is_lost members t ≡ true) → has_lost table.shape members ≡ true
cause_lost table members b t ok within (inl gone) = gone_lost table members b ok gone
cause_lost table members b t ok within (inr lost) = lost_from table.shape members t within lost

-- a copy that stands is on a boundary that isn't lost
pub stands_of : (answer : PlaceAnswer) (members : ℕ → MemberState) (t : ℕ) → answer ≡ Placed
    → (answer ≢ Full → answer ≢ Gone → (answer ≡ Lost t) ↔ (is_lost members t ≡ true)) → is_lost members t ≡ false
stands_of answer members t placed lost = by_test (is_lost members t) refl
  where
    by_test : (v : Bool) → is_lost members t ≡ v → v ≡ false
    by_test false e = refl
    by_test true e = absurd (let named = (lost (λ f. cc) (λ f. cc)).1 e in cc)

-- ---- placements that are met

-- a test on how many sites of a block are on a boundary, where none was lost
on_more : (x y : ℕ) → x ≤ y → nat_lt 0 x ≡ true → nat_lt 0 y ≡ true
on_more x y more on = lt-ltb 0 y (let some = ltb-true 0 x on in omega (arith, some, more))

pub met_both : (targets : ℕ → ℕ → Bool) (a b c : Table) → KeepsMet targets a b → KeepsMet targets b c → KeepsMet targets a c
met_both targets a b c first second x s wanted on = second x s wanted (first x s wanted on)

-- ---- stores

module _ {R : Type 0} (rack : Ghosts R) where
  pub leaves_both : (a b c : Store R) → Leaves rack a b → Leaves rack b c → Leaves rack a c
  leaves_both a b c first second = record { sound = second.sound; keeps = keeps_both rack a b c first.keeps second.keeps }

  module _ (targets : ℕ → ℕ → Bool) where
    pub moves_none : (s : Store R) → IsSound rack s → MovesOn rack targets s s
    moves_none s sound = record {
      leaves = record { sound = sound; keeps = keeps_none rack s };
      written = λ b. refl;
      met = λ b s wanted on. on;
      stands = λ told V st. st;
    }

    pub moves_both : (a b c : Store R) → MovesOn rack targets a b → MovesOn rack targets b c → MovesOn rack targets a c
    moves_both a b c first second = record {
      leaves = leaves_both a b c first.leaves second.leaves;
      written = λ q. second.written q ∙ first.written q;
      met = met_both targets (table_of a) (table_of b) (table_of c) first.met second.met;
      stands = λ told V st. second.stands told V (first.stands (told_all rack b c second.leaves.keeps.shape second.leaves.keeps.stays told) V st);
    }

    pub only_none : (s : Store R) → IsSound rack s → GivesUpOnly rack targets s s
    only_none s sound = record {
      leaves = record { sound = sound; keeps = keeps_none rack s };
      rack_is = refl;
      members = λ q. refl;
      stands = λ V st. st;
      written = λ b. refl;
      kept = λ b s wanted. refl;
    }

    pub only_both : (a b c : Store R) → GivesUpOnly rack targets a b → GivesUpOnly rack targets b c → GivesUpOnly rack targets a c
    only_both a b c first second = record {
      leaves = leaves_both a b c first.leaves second.leaves;
      rack_is = second.rack_is ∙ first.rack_is;
      members = λ q. second.members q ∙ first.members q;
      stands = λ V st. second.stands V (first.stands V st);
      written = λ q. second.written q ∙ first.written q;
      kept = λ q s wanted. second.kept q s wanted ∙ first.kept q s wanted;
    }

    -- to give up sites is to move
    pub only_moves : (old new : Store R) → GivesUpOnly rack targets old new → MovesOn rack targets old new
    only_moves old new only = record {
      leaves = only.leaves;
      written = only.written;
      met = λ b s wanted on. ap (λ (k : ℕ). nat_lt 0 k) (only.kept b s wanted) ∙ on;
      stands = λ told. only.stands;
    }

    -- one site was given up
    pub only_one : (old new : Store R) (b : ℕ) (site : Site) (rest : List Site) → IsSound rack old → b < (shape_of old).n
        → DropsSpare (targets b) (sites_in (table_of old) b) site rest → Leaves rack old new → SameWritten (table_of old) (table_of new)
        → rack_of new ≡ rack_of old → ((q : ℕ) → members_of new q ≡ members_of old q)
        → table_of new ≡ without_site (table_of old) b site.boundary → KeepsBlocks rack old new → GivesUpOnly rack targets old new
    only_one old new b site rest was within drops leaves written rack_is members table stands =
        let inside : b < length (table_of old).rows = let size = was.table.size in omega (arith, size, within) in
        let here : sites_in (table_of new) b ≡ sites_off site.boundary (sites_in (table_of old) b) =
        ap (λ (t : Table). sites_in t b) table ∙ without_here (table_of old) b site.boundary inside in
        let other : (c : ℕ) → c ≢ b → sites_in (table_of new) c ≡ sites_in (table_of old) c =
        λ c apart. ap (λ (t : Table). sites_in t c) table ∙ without_other (table_of old) b site.boundary c apart in
        record {
          leaves = leaves;
          rack_is = rack_is;
          members = members;
          stands = stands;
          written = written;
          kept = λ c t wanted. elim (cases_eq c b) [
            | inl at ↦
                ap (λ (k : ℕ). count_on t (sites_in (table_of new) k)) at
                ∙ ap (count_on t) here
                ∙ drops.kept t (subst (λ (k : ℕ). targets k t ≡ true) at wanted)
                ∙ ap (λ (k : ℕ). count_on t (sites_in (table_of old) k)) (sym at)
            | inr off ↦ ap (count_on t) (other c off)
          ];
        }

    -- the same placements are missing once sites were given up
    pub only_missing : (old new : Store R) → GivesUpOnly rack targets old new → (b t : ℕ) → is_missing targets (table_of new) b t ≡ is_missing targets (table_of old) b t
    only_missing old new only b t = same_missing (targets b t) (λ hit. only.kept b t hit)
      where
        same_missing : (w : Bool) → (w ≡ true → count_on t (sites_in (table_of new) b) ≡ count_on t (sites_in (table_of old) b))
            → (w && not (nat_lt 0 (count_on t (sites_in (table_of new) b)))) ≡ (w && not (nat_lt 0 (count_on t (sites_in (table_of old) b))))
        same_missing true same = ap (λ (k : ℕ). not (nat_lt 0 k)) (same refl)
        same_missing false same = refl

    -- ---- a copy

    -- the table is as before
    pub stays_moves : (old new : Store R) → Leaves rack old new → table_of new ≡ table_of old → KeepsBlocks rack old new → MovesOn rack targets old new
    stays_moves old new leaves table stands = record {
      leaves = leaves;
      written = λ b. ap (λ (t : Table). has_site (sites_in t b)) table;
      met = λ b s wanted on. ap (λ (t : Table). is_on t b s) table ∙ on;
      stands = λ told. stands;
    }

    -- block b has one more site
    pub placed_moves : (old new : Store R) (b : ℕ) (site : Site) → IsSound rack old → b < (shape_of old).n → Leaves rack old new
        → SameWritten (table_of old) (table_of new) → table_of new ≡ put_site (table_of old) b site
        → (Tells rack new → KeepsBlocks rack old new) → MovesOn rack targets old new
    placed_moves old new b site was within leaves written table stands =
        let inside : b < length (table_of old).rows = let size = was.table.size in omega (arith, size, within) in
        let more : (c s : ℕ) → count_on s (sites_in (table_of old) c) ≤ count_on s (sites_in (table_of new) c) = λ c s. elim (cases_eq c b) [
          | inl at ↦
              let row : sites_in (table_of new) c ≡ sites_in (table_of old) c ++ site ∷ [] =
              ap (λ (t : Table). sites_in t c) table
              ∙ ap (λ (k : ℕ). sites_in (put_site (table_of old) b site) k) at
              ∙ put_here (table_of old) b site inside
              ∙ ap (λ (k : ℕ). sites_in (table_of old) k ++ site ∷ []) (sym at) in
              omega (arith, ap (count_on s) row, count_on-push s (sites_in (table_of old) c) site)
          | inr off ↦
              let row : sites_in (table_of new) c ≡ sites_in (table_of old) c = ap (λ (t : Table). sites_in t c) table ∙ put_other (table_of old) b c site off in
              omega (arith, ap (count_on s) row)
        ] in
        record {
          leaves = leaves;
          written = written;
          met = λ c s wanted on. on_more (count_on s (sites_in (table_of old) c)) (count_on s (sites_in (table_of new) c)) (more c s) on;
          stands = λ told. stands (tells_good rack new leaves.sound told);
        }

-- the slot of a site that was put is one of the boundary's
pub put_slot : (table new : Table) (b : ℕ) (site : Site) → new ≡ put_site table b site → IsTable new → b < length table.rows → site.slot ≤ table.shape.k
put_slot table new b site put ok within =
    let row : sites_in new b ≡ sites_in table b ++ site ∷ [] = ap (λ (t : Table). sites_in t b) put ∙ put_here table b site within in
    let there = subst (λ (xs : List Site). Contains xs site) (sym row) (Contains-push (sites_in table b) site) in
    let low = ok.slots b site.boundary site.slot there in
    let same : new.shape.k ≡ table.shape.k = ap (λ (t : Table). t.shape.k) put in
    omega (arith, low, same)

-- ---- what a clause says of an answer

pub at_none : (o : Option ℕ) (P : Type 0) → o ≡ None → IfNone o P → P
at_none None P e h = h
at_none (Some x) P e h = absurd (cc)

pub at_some : (o : Option ℕ) (P : ℕ → Type 0) (s : ℕ) → o ≡ Some s → IfSome o P → P s
at_some None P s e h = absurd (cc)
at_some (Some x) P s e h = let same : x ≡ s = cc in subst P same h

pub on_err : {A E : Type 0} (r : Result A E) (P : Type 0) → P → OnErr r P
on_err (Ok x) P holds = tt
on_err (Err x) P holds = holds

-- ---- a site that is given up

-- what is left to be given up
pub gave_one : (targets : ℕ → Bool) (old new : Table) (b : ℕ) (site : Site) (rest : List Site) → b < length old.rows
    → spare targets (sites_in old b) ≡ site ∷ rest → DropsSpare targets (sites_in old b) site rest → new ≡ without_site old b site.boundary
    → all_done new (give_ups b (spare targets (sites_in new b))) ≡ all_done old (give_ups b (spare targets (sites_in old b)))
gave_one targets old new b site rest within first drops gone =
    let row : sites_in new b ≡ sites_off site.boundary (sites_in old b) = ap (λ (t : Table). sites_in t b) gone ∙ without_here old b site.boundary within in
    ap (λ (xs : List Site). all_done new (give_ups b xs)) (ap (spare targets) row ∙ drops.left)
    ∙ ap (λ (t : Table). all_done t (give_ups b rest)) gone
    ∙ sym (ap (λ (xs : List Site). all_done old (give_ups b xs)) first)

-- one block more gave up what it can do without
pub tidy_more : (targets : ℕ → ℕ → Bool) (old now new : Table) (k n : ℕ) → n ≡ k + 1 → now ≡ all_done old (tidying_below targets old k)
    → sites_in now k ≡ sites_in old k → new ≡ all_done now (give_ups k (spare (targets k) (sites_in now k)))
    → new ≡ all_done old (tidying_below targets old n)
tidy_more targets old now new k n one so_far same acts =
    acts
    ∙ ap (λ (xs : List Site). all_done now (give_ups k (spare (targets k) xs))) same
    ∙ ap (λ (t : Table). all_done t (give_ups k (spare (targets k) (sites_in old k)))) so_far
    ∙ sym (all_both (tidying_below targets old k) (give_ups k (spare (targets k) (sites_in old k))) old)
    ∙ ap (all_done old) (sym (tidying_more targets old k n one))
