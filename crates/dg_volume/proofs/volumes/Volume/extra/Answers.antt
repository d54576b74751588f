use Rattle.std.proofs.Common.{rules, ◌≡◌, ℕ, List, sym, subst, arith}
use Rattle.dg_model.specs.Marks.{marked}
use Rattle.dg_regroup.specs.Extras.{IsExtra}
use Rattle.dg_volume.proofs.ExtraLaws.{is_extra}
use Rattle.dg_volume.proofs.volumes.Volume.extra.Goals as goal
use Rattle.dg_volume.specs.Volumes.{cut_of, live_of}

pub returns-clause-form : goal.returns-clause-form
returns-clause-form g c =
    let a = c.args.self.now in
    let size = c.member_length.result in
    let boundaries = a.in_use.boundaries in
    let live : c.new.result ≡ live_of a = search rules in
    let cut : c.new-2.result ≡ marked (cut_of a) = search rules in
    let u = c.requires.in_use in
    let most = c.requires.array.table.shape.most_blocks in
    subst (λ (blocks : List ℕ). IsExtra (record { length = size; boundaries = boundaries; live = c.new.result; cut = blocks })) (sym cut)
    (subst (λ (numbers : List ℕ). IsExtra (record { length = size; boundaries = boundaries; live = numbers; cut = marked (cut_of a) })) (sym live)
    (is_extra size boundaries (live_of a) (cut_of a) (omega arith) u.most u.live (omega (arith, u.marks, most))))
