-- A step in which no count of faults rises, where bytes are told, is one of the views.
use Rattle.std.proofs.Common.{◌≡◌, ◌<◌, ◌+◌, ◌*◌, ◌++◌, ℕ, Bool, true, false, List, sym, ◌∙◌, ap, subst, arith, inl, inr}
use Rattle.std.specs.Prelude.{Some, None, Ok, Err}
use Rattle.std.specs.List.{concat, list_any}
use Rattle.std.proofs.lemmas.Bool.{cases_Bool, false≢true}
use Rattle.ufs_model.specs.Blocks.{Reading}
use Rattle.ufs_model.specs.Listings.{ls_of}
use Rattle.ufs_model.specs.Paths.{cat_of}
use Rattle.dg_model.specs.Causes.{NoneRose}
use Rattle.dg_model.specs.Changes.{IsCutShort, IsMember, MayRead, LosesSites}
use Rattle.dg_model.specs.Members.{IsStruck}
use Rattle.dg_model.specs.States.{State, gone_in, has_lost, is_broken}
use Rattle.dg_model.specs.Steps.{Step, member_of}
use Rattle.dg_model.specs.declared.shapes.Shape.{Shape}
use Rattle.dg_model.specs.declared.members.MemberState.{MemberState}
use Rattle.dg_model.specs.declared.events.Event.{Event}
use Rattle.dg_model.specs.declared.events.Event.TheVariants.{Write, Read, Fail, Cat, Ls}
use Rattle.dg_model.specs.declared.replies.Reply.{Reply}
use Rattle.dg_model.specs.declared.replies.Reply.TheVariants.{Done, Range, Degraded, Unavailable, Already, Data, Given, Cut, Listed as ListedReply, ListedCut, Refused}
use Rattle.dg_uses.specs.Views.{Core, HasMember, View, any_gone_in, core_of, is_gone_in}
use Rattle.dg_uses.proofs.InUse.{InUse, IsViewed, any_gone_is, gone_is, in_use_as, in_use_stays, member_here}
use Rattle.dg_uses.proofs.Cores.{Sound, core_is, goes_members, keeps_sites, same_core, stays_core}

not_true : (x : Bool) → (x ≡ true → ⊥) → x ≡ false
not_true x not = elim (cases_Bool x) [ inl there ↦ absurd (not there) | inr other ↦ other ]

gone_same : (x y : Core) (b : ℕ) (v : Bool) → x ≡ y → is_gone_in x b ≡ v → is_gone_in y b ≡ v
gone_same x y b v e is = sym (ap (λ (c : Core). is_gone_in c b) e) ∙ is

any_same : (x y : Core) (needs : List ℕ) → x ≡ y → any_gone_in x needs ≡ true → any_gone_in y needs ≡ true
any_same x y needs e is = sym (ap (λ (c : Core). any_gone_in c needs) e) ∙ is

-- of an array that is whole no write is refused
not_refused : (shape : Shape) (old new : State) (b : ℕ) → Sound shape (core_of old) → b < old.table.shape.n → new.members ≡ old.members → is_broken old ≡ false
    → LosesSites old.table b new.members → ⊥
not_refused shape old new b sound below same whole h =
    let low : b < shape.n = subst (λ (t : Shape). b < t.n) sound.inside.numbers below in
    let lost = keeps_sites shape old.table b new.members sound.boundaries low sound.inside h in
    let lost' = subst (λ (m : ℕ → MemberState). has_lost shape m ≡ true) same lost in
    let whole' = subst (λ (t : Shape). has_lost t old.members ≡ false) sound.inside.numbers whole in
    false≢true (sym whole' ∙ lost')

-- ---- readings

module _ {A : Type 0} (Known : Type 0) (known : Known) (shape : Shape) (old new : State) (in_use : InUse shape old) (after : InUse shape new) (same : core_of new ≡ core_of old)
    (reading : Reading A) where
  none_gone : (a : A) → MayRead Known old new reading (Some a) → any_gone_in (core_of old) (reading old.blocks).needs ≡ false
  none_gone a h = not_true (any_gone_in (core_of old) (reading old.blocks).needs) (λ e. false≢true (sym ((h.rule known).unavailable (any_gone_is shape old in_use (reading old.blocks).needs ∙ e))))

  -- a needed block is gone in the end, so it was at first
  gone_first : list_any (gone_in new) (reading old.blocks).needs ≡ true → any_gone_in (core_of old) (reading old.blocks).needs ≡ true
  gone_first e = any_same (core_of new) (core_of old) (reading old.blocks).needs same (sym (any_gone_is shape new after (reading old.blocks).needs) ∙ e)

  some_gone : MayRead Known old new reading None → any_gone_in (core_of old) (reading old.blocks).needs ≡ true
  some_gone h = gone_first (h.rule known).only

  not_cut : (a : A) → MayRead Known old new reading (Some a) → IsCutShort Known old new reading → ⊥
  not_cut a h cut = false≢true (sym (none_gone a h) ∙ gone_first (cut known))

-- ---- one event

module _ (Known : Type 0) (known : Known) (shape : Shape) (old new : State) (sound : Sound shape (core_of old)) (in_use : InUse shape old) (none : NoneRose old.counts.faults new.counts.faults) where
  write_view : (b : ℕ) (bytes : List ℕ) (reply : Reply) → Step Known old (Write b bytes) reply new → View (core_of old) (Write b bytes) reply (core_of new)
  write_view b bytes Range h = ((λ below. omega (arith, below, h.0)), same_core old new h.1)
  write_view b bytes Degraded h = elim h.1 [
    | inl was ↦ (h.0, was.0, same_core old new was.1)
    | inr now ↦ absurd (not_refused shape old new b sound h.0 (goes_members old new now.3.goes none sound.whole) now.0 now.1)
  ]
  write_view b bytes Done h = (
    h.0,
    h.1,
    record { sited = h.2.sited; blocks = ap (λ (s : State). s.blocks) h.2.rest; members = goes_members old new h.2.goes none sound.whole },
  )
  write_view b bytes reply h = absurd h

  read_view : (b : ℕ) (reply : Reply) → Step Known old (Read b) reply new → View (core_of old) (Read b) reply (core_of new)
  read_view b Range h = ((λ below. omega (arith, below, h.0)), same_core old new h.1)
  read_view b Unavailable h =
      let same = stays_core old new h.3 none sound.whole in
      let after = in_use_stays shape old new in_use h.3 in
      (h.0, gone_same (core_of new) (core_of old) b true same (sym (gone_is shape new after b) ∙ h.1), same)
  read_view b (Data bytes) h =
      let same = stays_core old new h.5 none sound.whole in
      let after = in_use_stays shape old new in_use h.5 in
      (h.0, gone_same (core_of new) (core_of old) b false same (sym (gone_is shape new after b) ∙ h.1), h.2 known, same)
  read_view b reply h = absurd h

  -- the array's boundaries are all in use
  as_boundary : (s : ℕ) → s < old.table.shape.b → s < old.boundaries
  as_boundary s low = subst (λ (n : ℕ). s < n) (ap (λ (t : Shape). t.b) sound.inside.numbers ∙ sym in_use.boundaries) low

  of_table : (s : ℕ) → s < old.boundaries → s < old.table.shape.b
  of_table s low = subst (λ (n : ℕ). s < n) (in_use.boundaries ∙ sym (ap (λ (t : Shape). t.b) sound.inside.numbers)) low

  has_member : (s j : ℕ) → IsMember old s j → HasMember (core_of old) s j
  has_member s j is = record { boundary = of_table s is.boundary; side = is.side }

  here : (s j : ℕ) → IsMember old s j → member_of old s j ≡ 2 * s + j
  here s j is = member_here shape old in_use s j (subst (λ (n : ℕ). s < n) in_use.boundaries is.boundary)

  fail_view : (s j : ℕ) (reply : Reply) → Step Known old (Fail s j) reply new → View (core_of old) (Fail s j) reply (core_of new)
  fail_view s j Range h = ((λ has. h.0 (record { boundary = as_boundary s has.boundary; side = has.side })), same_core old new h.1)
  fail_view s j Already h = (has_member s j h.0, ap old.members (sym (here s j h.0)) ∙ h.1, same_core old new h.2)
  fail_view s j Done h = (
    has_member s j h.0,
    (λ e. h.1 (ap old.members (here s j h.0) ∙ e)),
    record { members = subst (λ (q : ℕ). IsStruck q old.members new.members) (here s j h.0) h.2.members; rest = λ i. record { table = (h.2.rest i).table; blocks = (h.2.rest i).blocks; members = new.members } },
  )
  fail_view s j reply h = absurd h

  cat_view : (path : List ℕ) (reply : Reply) → Step Known old (Cat path) reply new → View (core_of old) (Cat path) reply (core_of new)
  cat_view path (Given lines) h =
      let rest = h.2.rest in
      let same = core_is (core_of new) (core_of old) (ap (λ (s : State). s.table) rest) (ap (λ (s : State). s.blocks) rest) (goes_members old new h.2.goes none sound.whole) in
      let after = in_use_as shape old new in_use (ap (λ (s : State). s.boundaries) rest) (ap (λ (s : State). s.live) rest) (ap (λ (s : State). s.cut) rest) in
      (none_gone Known known shape old new in_use after same (cat_of old.table.shape.l old.table.shape.n path) (Ok (concat lines)) h.1, h.0, (h.1.rule known).answer, same)
  cat_view path (Refused refusal) h =
      let same = stays_core old new h.1 none sound.whole in
      let after = in_use_stays shape old new in_use h.1 in
      (none_gone Known known shape old new in_use after same (cat_of old.table.shape.l old.table.shape.n path) (Err refusal) h.0, (h.0.rule known).answer, same)
  cat_view path Unavailable h =
      let same = stays_core old new h.1 none sound.whole in
      let after = in_use_stays shape old new in_use h.1 in
      (some_gone Known known shape old new in_use after same (cat_of old.table.shape.l old.table.shape.n path) h.0, same)
  cat_view path (Cut lines) h =
      let same = stays_core old new h.3 none sound.whole in
      let after = in_use_stays shape old new in_use h.3 in
      absurd (not_cut Known known shape old new in_use after same (cat_of old.table.shape.l old.table.shape.n path) (Ok (concat lines ++ h.1.0)) h.1.1 h.2)
  cat_view path reply h = absurd h

  ls_view : (path : List ℕ) (reply : Reply) → Step Known old (Ls path) reply new → View (core_of old) (Ls path) reply (core_of new)
  ls_view path (ListedReply entries) h =
      let same = stays_core old new h.1 none sound.whole in
      let after = in_use_stays shape old new in_use h.1 in
      (none_gone Known known shape old new in_use after same (ls_of old.table.shape.l old.table.shape.n path) (Ok entries) h.0, (h.0.rule known).answer, same)
  ls_view path (Refused refusal) h =
      let same = stays_core old new h.1 none sound.whole in
      let after = in_use_stays shape old new in_use h.1 in
      (none_gone Known known shape old new in_use after same (ls_of old.table.shape.l old.table.shape.n path) (Err refusal) h.0, (h.0.rule known).answer, same)
  ls_view path Unavailable h =
      let same = stays_core old new h.1 none sound.whole in
      let after = in_use_stays shape old new in_use h.1 in
      (some_gone Known known shape old new in_use after same (ls_of old.table.shape.l old.table.shape.n path) h.0, same)
  ls_view path (ListedCut entries) h =
      let same = stays_core old new h.2 none sound.whole in
      let after = in_use_stays shape old new in_use h.2 in
      absurd (not_cut Known known shape old new in_use after same (ls_of old.table.shape.l old.table.shape.n path) (Ok (entries ++ h.0.0)) h.0.1 h.1)
  ls_view path reply h = absurd h

  -- a step of an event that is served
  pub view_of : (event : Event) (reply : Reply) → IsViewed event → Step Known old event reply new → View (core_of old) event reply (core_of new)
  view_of (Write b bytes) reply place h = write_view b bytes reply h
  view_of (Read b) reply place h = read_view b reply h
  view_of (Fail s j) reply place h = fail_view s j reply h
  view_of (Cat path) reply place h = cat_view path reply h
  view_of (Ls path) reply place h = ls_view path reply h
  view_of event reply place h = absurd place
