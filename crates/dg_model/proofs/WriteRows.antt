-- A write of an array of two blocks that hold no volume, and what is no write.
use Rattle.std.proofs.Common.{◌≡◌, ◌≢◌, inl, inr, ℕ, true, false, List, [], ◌∷◌, length, ap, refl, arith}
use Rattle.std.specs.Prelude.{Err, slice_set}
use Rattle.std.specs.List.{All, Contains, sum_by}
use Rattle.std.proofs.lemmas.Bool.{false≢true}
use Rattle.std.proofs.lemmas.List.Elements.{All-contains}
use Rattle.ufs_model.specs.Blocks.{Volume, area_of, area_within, bind}
use Rattle.ufs_model.specs.Numbers.{number_at}
use Rattle.ufs_model.specs.Superblocks.{endian_of, fields, geometry_by, geometry_in, geometry_of, superblock_of}
use Rattle.ufs_model.specs.declared.geometries.BadSuper.TheVariants.{Magic}
use Rattle.dg_model.specs.Blocks.{padded}
use Rattle.dg_model.specs.Marks.{AreLeft, IsKnown}
use Rattle.dg_model.specs.Rereads.{ClaimPlace, IsBeside, IsChangedAt, Rereads, count_read}
use Rattle.dg_model.specs.Sites.{IsSited}
use Rattle.dg_model.specs.States.{State}
use Rattle.dg_model.specs.Steps.{Step}
use Rattle.dg_model.specs.Tables.{lowest_free, sites_in}
use Rattle.dg_model.specs.Volumes.{geometry_on}
use Rattle.dg_model.specs.declared.events.Event.TheVariants.{Write}
use Rattle.dg_model.specs.declared.replies.Reply.TheVariants.{Done, Range}
use Rattle.dg_model.proofs.FirstSites.{first_sited, sited_same}
use Rattle.dg_model.proofs.MarkLaws.{unclaimed_without}
use Rattle.dg_model.proofs.PlanRows.{on}
use Rattle.dg_model.proofs.RereadLaws.{few_calls}
use Rattle.dg_model.proofs.SealLaws.{goes_plain}
use Rattle.dg_model.proofs.StepRows.{all_good, array_with, not_filling, nothing, table_with}
use Rattle.dg_model.proofs.VerdictRows.{blocks, no_volume}

-- no block is written, and none is pending
abbrev empty : State
empty = record (array_with (table_with [] []) nothing 5) { pending = false ∷ false ∷ [] }

abbrev written_blocks : Volume
written_blocks = slice_set blocks 0 (padded 512 (7 ∷ []))

-- block 0 is written, with two calls: one for each member of its boundary
abbrev after : ℕ → State
after calls = record (array_with (table_with (on 0 0 ∷ []) []) nothing calls) { blocks = written_blocks; pending = true ∷ false ∷ [] }

still_no_volume : geometry_on 512 2 written_blocks ≡ Err Magic
unfolding geometry_of superblock_of area_within area_of bind geometry_in geometry_by endian_of fields number_at
still_no_volume = refl

unknown : (b : ℕ) → IsKnown 512 2 written_blocks b → ⊥
unknown b known = elim known [
  | inl system ↦ absurd (rw still_no_volume at system)
  | inr claim ↦ unclaimed_without 512 2 written_blocks Magic b still_no_volume claim
]

left : AreLeft (Unit {0}) 512 2 written_blocks (true ∷ false ∷ []) (true ∷ false ∷ [])
left = record { size = refl; fewer = λ b e. e; are = λ told b. ((λ e. (e, unknown b)), (λ h. h.0)) }

sited : IsSited (table_with [] []) 0 (table_with (on 0 0 ∷ []) [])
unfolding lowest_free
sited = first_sited (table_with [] []) 0 (omega arith) refl (omega arith) (omega arith)

written : Step (Unit {0}) empty (Write 0 (7 ∷ [])) Done (after 7)
unfolding all_good
written = (
  omega arith,
  refl,
  record {
    goes = goes_plain empty (after 7) refl refl
        (record { faults = λ q. omega arith; calls = omega arith; writes = omega arith })
        (λ q. inl refl) not_filling (record { fell = λ q low less. absurd (omega (arith, less)); beyond = λ q high. refl }) (λ q was. refl);
    few = few_calls (Unit {0}) empty 0 (after 7) (omega arith);
    sited = sited;
    marks = left;
    rest = refl;
  },
)

-- ---- no more calls: nothing is read again, since there is no volume

changes_none : (place : ClaimPlace) → IsChangedAt 512 2 blocks written_blocks place → ⊥
changes_none place change = elim change.changed [
  | inl ended ↦ unclaimed_without 512 2 blocks Magic place.fragment no_volume (ended.0.source, ended.0.claim)
  | inr (inl begun) ↦ unclaimed_without 512 2 written_blocks Magic place.fragment still_no_volume (begun.0.source, begun.0.claim)
  | inr (inr anew) ↦ unclaimed_without 512 2 written_blocks Magic place.fragment still_no_volume (anew.claimed.source, anew.claimed.claim)
]

no_needs : (superblock_of 512 2 written_blocks).needs ≡ []
unfolding superblock_of area_within area_of bind
no_needs = refl

needs_none : (xs : List ℕ) (f : ℕ) → xs ≡ [] → Contains xs f → ⊥
needs_none xs f none (k, low, at) = let e = ap (λ (l : List ℕ). length l) none in omega (arith, low, e)

beside_none : (f : ℕ) → IsBeside 512 2 blocks written_blocks 0 f → ⊥
beside_none f (IsBeside.of_superblock one other) = needs_none (superblock_of 512 2 written_blocks).needs f no_needs other
beside_none f (IsBeside.of_group_block group) = absurd (rw still_no_volume at group)
beside_none f (IsBeside.of_areas changed area) = elim area [
  | inl old ↦ absurd (rw no_volume at old)
  | inr new ↦ absurd (rw still_no_volume at new)
]

none_of : {X : Type 0} (P : X → Type 0) (xs : List X) → ((x : X) → P x → ⊥) → All P xs → length xs ≡ 0
none_of P [] none all = refl
none_of P (x ∷ xs) none all = absurd (none x (All-contains P (x ∷ xs) x all (0, omega arith, refl)))

no_rereads : (rereads : Rereads (Unit {0}) 512 2 blocks written_blocks 0) → count_read rereads ≡ 0
no_rereads rereads =
    omega (
      arith,
      none_of (IsChangedAt 512 2 blocks written_blocks) rereads.indirect changes_none (rereads.changed tt),
      none_of (IsBeside 512 2 blocks written_blocks 0) rereads.beside beside_none (rereads.are_beside tt),
    )

written_by_more : Step (Unit {0}) empty (Write 0 (7 ∷ [])) Done (after 8) → ⊥
written_by_more h =
    let most = h.2.few.most (λ q rose. omega (arith, rose)) in
    let read = no_rereads h.2.few.rereads in
    omega (arith, most, read)

-- the block itself isn't read again
reads_itself : (Known : Type 0) → Known → (l n : ℕ) (old new : Volume) (b : ℕ) (rereads : Rereads Known l n old new b) → Contains rereads.beside b → ⊥
reads_itself Known told l n old new b rereads there = All-contains (λ (f : ℕ). f ≢ b) rereads.beside b (rereads.others told) there refl

-- ---- no other mark, no other site, and no refusal

-- the block is pending
mark_left_out : Step (Unit {0}) empty (Write 0 (7 ∷ [])) Done (record (after 7) { pending = false ∷ false ∷ [] }) → ⊥
unfolding all_good
mark_left_out h = false≢true ((h.2.marks.are tt 0).1 (refl, unknown 0))

-- it gets its first site on boundary 0
sited_elsewhere : IsSited (table_with [] []) 0 (table_with (on 1 0 ∷ []) []) → ⊥
sited_elsewhere other =
    let same = sited_same (table_with [] []) (table_with (on 0 0 ∷ []) []) (table_with (on 1 0 ∷ []) []) 0 sited other in
    let at = ap (λ t. sum_by (λ site. site.boundary) (sites_in t 0)) same in
    omega (arith, at)

-- a block of the array isn't out of range, and nothing is lost
out_of_range : (Known : Type 0) (new : State) → Step Known empty (Write 0 (7 ∷ [])) Range new → ⊥
out_of_range Known new h = omega (arith, h.0)
