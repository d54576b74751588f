-- What calls leave of an array, and of the counts of faults.
use Rattle.std.proofs.Common.{◌≡◌, ◌∙◌, ◌<◌, ◌≤◌, ◌/◌, ℕ, Bool, List, inl, inr, ap, sym, subst, arith}
use Rattle.std.proofs.lemmas.Bool.{cases_lt}
use Rattle.dg_io.specs.RackCalls.{RackCall}
use Rattle.dg_io.specs.declared.outside.Rack.{Ghosts}
use Rattle.dg_label.specs.Seals.{KeepsArray, KeepsArrayBy}
use Rattle.dg_model.specs.Members.{MembersFall}
use Rattle.dg_model.specs.declared.members.MemberState.{MemberState}
use Rattle.dg_model.specs.declared.members.MemberState.TheVariants.{Out}
use Rattle.dg_model.specs.declared.shapes.Shape.{Shape}
use Rattle.dg_rebuild.specs.Passed.{Passed}
use Rattle.dg_store.specs.Answers.{IsBlankStore}
use Rattle.dg_store.specs.Leaves.{Keeps, MadeBelow, Stays}
use Rattle.dg_store.specs.ReadLaws.{own_both}
use Rattle.dg_store.specs.Stores.{members_of, rack_of, shape_of}
use Rattle.dg_store.specs.declared.store.Store.{Store}
use Rattle.dg_volume.specs.Faults.{OutsStay, TellsFaults, faults_of}

pub falls_out : (before now : ℕ → ℕ) (old new : ℕ → MemberState) → MembersFall before now old new → (q : ℕ) → old q ≡ Out → new q ≡ Out
falls_out before now old new falls q out = elim (falls q) [ inl same ↦ same ∙ out | inr fell ↦ fell.out ]

module _ {R : Type 0} (rack : Ghosts R) where
  -- ---- an array

  -- what calls on slots leave of it
  pub stays_by : (a b : Store R) → Keeps rack a b → Stays rack a b
  stays_by a b h = record { shape = h.shape; stays = h.stays; own = h.own }

  -- calls on its members, and then again
  pub own_then : {may : ℕ → RackCall → Type 0} (a b c : Store R) → shape_of b ≡ shape_of a → MadeBelow rack may (shape_of a).b (rack_of a) (rack_of b)
      → MadeBelow rack may (shape_of b).b (rack_of b) (rack_of c) → MadeBelow rack may (shape_of a).b (rack_of a) (rack_of c)
  own_then {may = may} a b c shape first second =
      own_both rack (shape_of a).b (rack_of a) (rack_of b) (rack_of c) first (subst (λ (s : Shape). MadeBelow rack may s.b (rack_of b) (rack_of c)) shape second)

  -- ---- one call after another

  -- no call was made
  pub tells_same : (a b : Store R) → rack_of b ≡ rack_of a → TellsFaults rack a b
  tells_same a b same =
      let faults : (q : ℕ) → faults_of rack b q ≡ faults_of rack a q = λ q. ap (λ (r : R). (rack.counts r).faults q) same in
      record { fell = λ q below rose. absurd (omega (arith, faults q, rose)); beyond = λ q past. faults q }

  pub outs_same : (a b : Store R) → rack_of b ≡ rack_of a → OutsStay rack a b
  outs_same a b same q out = ap (λ (r : R). (rack.counts r).faults q) same

  pub tells_both : (a b c : Store R) → shape_of b ≡ shape_of a → ((q : ℕ) → members_of b q ≡ Out → members_of c q ≡ Out) → TellsFaults rack a b → TellsFaults rack b c
      → TellsFaults rack a c
  tells_both a b c shape outs first second = record {
    fell = λ q below rose. elim (cases_lt (faults_of rack a q) (faults_of rack b q)) [
      | inl early ↦ outs q (first.fell q below early)
      | inr late ↦ second.fell q (subst (λ (s : Shape). q / 2 < s.b) (sym shape) below) (omega (arith, late, rose))
    ];
    beyond = λ q past. second.beyond q (subst (λ (s : Shape). s.b ≤ q / 2) (sym shape) past) ∙ first.beyond q past;
  }

  pub outs_both : (a b c : Store R) → ((q : ℕ) → members_of a q ≡ Out → members_of b q ≡ Out) → OutsStay rack a b → OutsStay rack b c → OutsStay rack a c
  outs_both a b c outs first second q out = second q (outs q out) ∙ first q out

  -- ---- what calls below leave

  -- calls on slots
  pub keeps_tells : (a b : Store R) → Keeps rack a b → TellsFaults rack a b
  keeps_tells a b h = record { fell = λ q below rose. h.fell q rose; beyond = h.own.other_faults }

  pub keeps_outs : (a b : Store R) → Keeps rack a b → OutsStay rack a b
  keeps_outs a b h = h.idle

  -- calls beside the slots
  pub array_tells : {may : ℕ → RackCall → Type 0} (a b : Store R) → KeepsArrayBy rack may a b → TellsFaults rack a b
  array_tells a b h = record { fell = λ q below rose. h.fell q rose; beyond = h.stays.own.other_faults }

  pub array_outs : {may : ℕ → RackCall → Type 0} (a b : Store R) → KeepsArrayBy rack may a b → OutsStay rack a b
  array_outs a b h = h.idle

  -- a refill, by what it says of the slots that it passed
  pub passed_tells : (marks : List Bool) (s low high : ℕ) (before after : List ℕ) (a b : Store R) → Passed rack marks s low high before after a b → TellsFaults rack a b
  passed_tells marks s low high before after a b h = record { fell = λ q below rose. h.faults.fell q rose; beyond = h.stays.own.other_faults }

  pub passed_outs : (marks : List Bool) (s low high : ℕ) (before after : List ℕ) (a b : Store R) → Passed rack marks s low high before after a b → OutsStay rack a b
  passed_outs marks s low high before after a b h = h.faults.idle

  -- ---- behind an opening of the seal

  pub behind_tells : (a m b : Store R) → KeepsArray rack a m → ((q : ℕ) → members_of m q ≡ Out → members_of b q ≡ Out) → TellsFaults rack m b → TellsFaults rack a b
  behind_tells a m b opening outs second = tells_both a m b opening.stays.shape outs (array_tells a m opening) second

  pub behind_outs : (a m b : Store R) → KeepsArray rack a m → OutsStay rack m b → OutsStay rack a b
  behind_outs a m b opening second =
      outs_both a m b (falls_out (rack.counts (rack_of a)).faults (rack.counts (rack_of m)).faults (members_of a) (members_of m) opening.falls) (array_outs a m opening) second

  -- ---- a blank array

  pub blank_fell : (shape : Shape) (before : R) (store : Store R) → IsBlankStore rack shape before store
      → (q : ℕ) → q / 2 < shape.b → (rack.counts before).faults q < faults_of rack store q → members_of store q ≡ Out
  blank_fell shape before store h q below rose = h.fell q rose

  pub blank_beyond : (shape : Shape) (before : R) (store : Store R) → IsBlankStore rack shape before store
      → (q : ℕ) → shape.b ≤ q / 2 → faults_of rack store q ≡ (rack.counts before).faults q
  blank_beyond shape before store h q past = h.own.other_faults q past
