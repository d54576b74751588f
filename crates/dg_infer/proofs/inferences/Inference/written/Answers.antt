use Rattle.std.proofs.Common.{◌≡◌, ◌∙◌, ◌/◌, ℕ, refl, sym, ap, subst}
use Rattle.std.proofs.lemmas.Bool.{false≢true}
use Rattle.std.specs.Int.{div_ceil}
use Rattle.std.specs.Prelude.{slice_set}
use Rattle.dg_infer.proofs.TargetLaws.{this_block}
use Rattle.dg_model.specs.Volumes.{geometry_on}
use Rattle.ufs_model.specs.Blocks.{Volume, block_at}
use Rattle.ufs_model.specs.Metadata.{IsMetadata, of_superblock}
use Rattle.ufs_pointer.specs.KindLaws.{loses_along}
use Rattle.dg_claims.specs.Tables.{accepted}
use Rattle.dg_infer.proofs.BoundLaws.{bound_outside, bound_super, bound_write, in_superblock, super_by}
use Rattle.dg_infer.proofs.VolumeLaws.{super_off}
use Rattle.dg_infer.proofs.WriteLaws.{loses_off}
use Rattle.dg_infer.specs.Areas.{IsFrom}
use Rattle.dg_infer.specs.Writes.{IsKnownWrite, IsWriteTo}
use Rattle.dg_infer.proofs.inferences.Inference.written.Goals as goal

pub returns-then-not-is_in_superblock-clause-stands : goal.returns-then-not-is_in_superblock-clause-stands
returns-then-not-is_in_superblock-clause-stands g c = λ moved is v h.
    let size = c.fragment_bytes.ensures.value ∙ c.requires.levels ∙ sym c.requires.size in
    let out : IsFrom (8192 / c.args.self.now.l) (div_ceil 1376 c.args.self.now.l) c.args.block → ⊥ = λ from.
    false≢true (sym c.if-not-is_in_superblock.true ∙ c.is_in_superblock.ensures.1 (subst (λ (l : ℕ). IsFrom (8192 / l) (div_ceil 1376 l) c.args.block) (sym size) from)) in
    (rw (c.outcome.ensures.known moved is) at c.in_ok-keep.ensures.stands) v (h, h.was.geometry ∙ ap accepted (super_off c.args.self.now.l c.args.self.now.n v c.args.block c.args.new.now out))

pub returns-then-not-is_in_superblock-clause-gone : goal.returns-then-not-is_in_superblock-clause-gone
returns-then-not-is_in_superblock-clause-gone g c = λ is.
    let size = c.fragment_bytes.ensures.value ∙ c.requires.levels ∙ sym c.requires.size in
    let out : IsFrom (8192 / c.args.self.now.l) (div_ceil 1376 c.args.self.now.l) c.args.block → ⊥ = λ from.
    false≢true (sym c.if-not-is_in_superblock.true ∙ c.is_in_superblock.ensures.1 (subst (λ (l : ℕ). IsFrom (8192 / l) (div_ceil 1376 l) c.args.block) (sym size) from)) in
    loses_off g.V.View c.args.view.now c.keep.new.view c.args.self.now c.args.block c.args.new.now out (rw (c.outcome.ensures.gone is) at c.in_ok-keep.ensures.lost)

pub returns-in_err-keep-clause-reread : goal.returns-in_err-keep-clause-reread
returns-in_err-keep-clause-reread g c = λ v.
    let size = c.fragment_bytes.ensures.value ∙ c.requires.levels ∙ sym c.requires.size in
    let out : IsFrom (8192 / c.args.self.now.l) (div_ceil 1376 c.args.self.now.l) c.args.block → ⊥ = λ from.
    false≢true (sym c.if-not-is_in_superblock.true ∙ c.is_in_superblock.ensures.1 (subst (λ (l : ℕ). IsFrom (8192 / l) (div_ceil 1376 l) c.args.block) (sym size) from)) in
    bound_outside g.V.View g.met.V.View.fetched_both g.met.V.View.fetched_none c.args.self.now v c.args.block c.args.new.now c.args.view.now c.keep.new.view out c.keep.ensures.fetched

pub returns-then-not-is_in_superblock-clause-reread : goal.returns-then-not-is_in_superblock-clause-reread
returns-then-not-is_in_superblock-clause-reread g c = λ v.
    let size = c.fragment_bytes.ensures.value ∙ c.requires.levels ∙ sym c.requires.size in
    let out : IsFrom (8192 / c.args.self.now.l) (div_ceil 1376 c.args.self.now.l) c.args.block → ⊥ = λ from.
    false≢true (sym c.if-not-is_in_superblock.true ∙ c.is_in_superblock.ensures.1 (subst (λ (l : ℕ). IsFrom (8192 / l) (div_ceil 1376 l) c.args.block) (sym size) from)) in
    bound_outside g.V.View g.met.V.View.fetched_both g.met.V.View.fetched_none c.args.self.now v c.args.block c.args.new.now c.args.view.now c.keep.new.view out c.keep.ensures.fetched

pub returns-then-not-is_in_superblock-clause-fetched : goal.returns-then-not-is_in_superblock-clause-fetched
returns-then-not-is_in_superblock-clause-fetched g c = λ moved is v. returns-then-not-is_in_superblock-clause-reread g c v

pub returns-in_err-found-clause-reread : goal.returns-in_err-found-clause-reread
returns-in_err-found-clause-reread g c = λ v.
    let kept = c.args.self.now in
    let size = c.fragment_bytes.ensures.value ∙ c.requires.levels ∙ sym c.requires.size in
    let from : IsFrom (8192 / kept.l) (div_ceil 1376 kept.l) c.args.block = subst (λ (x : ℕ). IsFrom (8192 / x) (div_ceil 1376 x) c.args.block) size (c.is_in_superblock.ensures.0 c.if-not-is_in_superblock.false) in
    let super = super_by g.V.View kept.l kept.n c.args.block c.args.view.now c.read_superblock.new.view c.requires.size c.requires.count c.read_superblock.ensures.fetched in
    bound_super g.V.View (IsKnownWrite g.V.View c.args.view.now c.read_superblock.new.view kept c.args.block c.args.new.now v) kept.l kept.n v (slice_set v c.args.block c.args.new.now)
    c.args.block c.args.view.now c.read_superblock.new.view g.met.V.View.fetched_both g.met.V.View.fetched_none from c.requires.inside super

pub returns-in-None-clause-reread : goal.returns-in-None-clause-reread
returns-in-None-clause-reread g c = λ v.
    let kept = c.args.self.now in
    let size = c.fragment_bytes.ensures.value ∙ c.requires.levels ∙ sym c.requires.size in
    let from : IsFrom (8192 / kept.l) (div_ceil 1376 kept.l) c.args.block = subst (λ (x : ℕ). IsFrom (8192 / x) (div_ceil 1376 x) c.args.block) size (c.is_in_superblock.ensures.0 c.if-not-is_in_superblock.false) in
    let super = super_by g.V.View kept.l kept.n c.args.block c.args.view.now c.read_superblock.new.view c.requires.size c.requires.count c.read_superblock.ensures.fetched in
    bound_super g.V.View (IsKnownWrite g.V.View c.args.view.now c.read_superblock.new.view kept c.args.block c.args.new.now v) kept.l kept.n v (slice_set v c.args.block c.args.new.now)
    c.args.block c.args.view.now c.read_superblock.new.view g.met.V.View.fetched_both g.met.V.View.fetched_none from c.requires.inside super

pub returns-in-None-clause-gone : goal.returns-in-None-clause-gone
returns-in-None-clause-gone g c = λ is.
    let from_l : g.V.View.size c.args.view.now ≡ c.args.self.now.l = sym c.requires.size in
    let from_n : g.V.View.count c.args.view.now ≡ c.args.self.now.n = sym c.requires.count in
    loses_along refl (λ b h. h) (λ h. h) (λ told w h. (
      h.0,
      λ b from. subst (λ (n : ℕ). IsMetadata c.args.self.now.l n w b) from_n (subst (λ (l : ℕ). IsMetadata l (g.V.View.count c.args.view.now) w b) from_l
          (of_superblock (in_superblock (g.V.View.size c.args.view.now) (g.V.View.count c.args.view.now) w b from))),
    )) (rw c.in-None.is at c.in_ok-found.ensures.lost)

pub returns-in_ok-got-in-Some-clause-stands : goal.returns-in_ok-got-in-Some-clause-stands
returns-in_ok-got-in-Some-clause-stands g c = λ moved is v h.
    let l = c.args.self.now.l in
    let n = c.args.self.now.n in
    let first = c.read_superblock.ensures.keeps in
    let next : (w : Volume) → g.V.View.tells c.follow.new.view → g.V.View.stands_for c.args.view.now w → c.args.new.now ≡ block_at (g.V.View.size c.args.view.now) w c.args.block
    → c.accepted.result ≡ accepted (geometry_on l n w) = λ w told holds has.
    c.accepted.ensures.value
    ∙ ap accepted ((rw c.in-Some.is at c.in_ok-found.ensures.geometry) (c.follow.ensures.keeps.told told) w holds has)
    ∙ ap (λ (x : ℕ). accepted (geometry_on x (g.V.View.count c.args.view.now) w)) (sym c.requires.size) ∙ ap (λ (x : ℕ). accepted (geometry_on l x w)) (sym c.requires.count) in
    let later : (v : Volume) → IsKnownWrite g.V.View c.args.view.now c.follow.new.view c.args.self.now c.args.block c.args.new.now v
    → IsWriteTo g.V.View c.read_superblock.new.view c.follow.new.view c.args.self.now c.accepted.result c.args.block c.args.new.now v = λ v h. (
      record { tells = h.tells; inside = h.inside; stands = first.stands (slice_set v c.args.block c.args.new.now) h.stands; was = h.was },
      next (slice_set v c.args.block c.args.new.now) h.tells h.stands (this_block (g.V.View.size c.args.view.now) v c.args.block c.args.new.now h.inside),
    ) in
    (rw (c.outcome-in-Some.ensures.known moved is) at c.in_ok-got-in-Some.ensures.stands) v (later v h)

pub returns-in_ok-got-in-Some-clause-gone : goal.returns-in_ok-got-in-Some-clause-gone
returns-in_ok-got-in-Some-clause-gone g c = λ is.
    let l = c.args.self.now.l in
    let n = c.args.self.now.n in
    let first = c.read_superblock.ensures.keeps in
    let next : (w : Volume) → g.V.View.tells c.follow.new.view → g.V.View.stands_for c.args.view.now w → c.args.new.now ≡ block_at (g.V.View.size c.args.view.now) w c.args.block
    → c.accepted.result ≡ accepted (geometry_on l n w) = λ w told holds has.
    c.accepted.ensures.value
    ∙ ap accepted ((rw c.in-Some.is at c.in_ok-found.ensures.geometry) (c.follow.ensures.keeps.told told) w holds has)
    ∙ ap (λ (x : ℕ). accepted (geometry_on x (g.V.View.count c.args.view.now) w)) (sym c.requires.size) ∙ ap (λ (x : ℕ). accepted (geometry_on l x w)) (sym c.requires.count) in
    loses_along first.blocks (λ b h. h) (λ h. h) (λ told w h.
    let made = h.1 in
    let has = subst (λ (x : Volume). c.args.new.now ≡ block_at (g.V.View.size c.args.view.now) x c.args.block) (sym made.written)
    (this_block (g.V.View.size c.args.view.now) made.before c.args.block c.args.new.now made.inside) in (
      ((first.stands w (h.0), made), next w told (h.0) has),
      λ b at. at,
    )) (rw (c.outcome-in-Some.ensures.gone is) at c.in_ok-got-in-Some.ensures.lost)

pub returns-in_err-got-in-Some-clause-reread : goal.returns-in_err-got-in-Some-clause-reread
returns-in_err-got-in-Some-clause-reread g c = λ v.
    let kept = c.args.self.now in
    let size = c.fragment_bytes.ensures.value ∙ c.requires.levels ∙ sym c.requires.size in
    let from : IsFrom (8192 / kept.l) (div_ceil 1376 kept.l) c.args.block = subst (λ (x : ℕ). IsFrom (8192 / x) (div_ceil 1376 x) c.args.block) size (c.is_in_superblock.ensures.0 c.if-not-is_in_superblock.false) in
    let super = super_by g.V.View kept.l kept.n c.args.block c.args.view.now c.read_superblock.new.view c.requires.size c.requires.count c.read_superblock.ensures.fetched in
    bound_write g.V.View g.met.V.View.fetched_both g.met.V.View.fetched_none kept v c.args.block c.args.new.now c.in-Some.found c.accepted.result c.args.view.now c.read_superblock.new.view
    c.follow.new.view c.requires.size c.requires.count from c.requires.inside c.accepted.ensures.value
    (c.accepted.ensures.on (g.V.View.size c.args.view.now) (g.V.View.count c.args.view.now) (rw c.in-Some.is at c.in_ok-found.ensures.on))
    (rw c.in-Some.is at c.in_ok-found.ensures.geometry) c.read_superblock.ensures.keeps c.follow.ensures.keeps.told super c.follow.ensures.fetched

pub returns-in_ok-got-in-Some-clause-reread : goal.returns-in_ok-got-in-Some-clause-reread
returns-in_ok-got-in-Some-clause-reread g c = λ v.
    let kept = c.args.self.now in
    let size = c.fragment_bytes.ensures.value ∙ c.requires.levels ∙ sym c.requires.size in
    let from : IsFrom (8192 / kept.l) (div_ceil 1376 kept.l) c.args.block = subst (λ (x : ℕ). IsFrom (8192 / x) (div_ceil 1376 x) c.args.block) size (c.is_in_superblock.ensures.0 c.if-not-is_in_superblock.false) in
    let super = super_by g.V.View kept.l kept.n c.args.block c.args.view.now c.read_superblock.new.view c.requires.size c.requires.count c.read_superblock.ensures.fetched in
    bound_write g.V.View g.met.V.View.fetched_both g.met.V.View.fetched_none kept v c.args.block c.args.new.now c.in-Some.found c.accepted.result c.args.view.now c.read_superblock.new.view
    c.follow.new.view c.requires.size c.requires.count from c.requires.inside c.accepted.ensures.value
    (c.accepted.ensures.on (g.V.View.size c.args.view.now) (g.V.View.count c.args.view.now) (rw c.in-Some.is at c.in_ok-found.ensures.on))
    (rw c.in-Some.is at c.in_ok-found.ensures.geometry) c.read_superblock.ensures.keeps c.follow.ensures.keeps.told super c.follow.ensures.fetched

pub returns-in_ok-got-in-Some-clause-fetched : goal.returns-in_ok-got-in-Some-clause-fetched
returns-in_ok-got-in-Some-clause-fetched g c = λ moved is v. returns-in_ok-got-in-Some-clause-reread g c v
