use Rattle.ufs_model.proofs.ReadingLaws.{reads_then, reads_none}
use Rattle.ufs_pointer.specs.FetchLaws.{fetches_known, fetches_then, fetches_none}
use Rattle.ufs_pointer.specs.KindLaws.{loses_front, loses_then, no_answer_then}
use Rattle.ufs_pointer.proofs.levels.Levels.follow.Goals as goal

pub returns-in_err-single-in-Two-clause-rule : goal.returns-in_err-single-in-Two-clause-rule
returns-in_err-single-in-Two-clause-rule g c =
    rw (c.in-Two.is, c.from_residual.ensures) (reads_none _ (rw c.indirect_address-double.ensures.value at c.in_err-single-in-Two.ensures.rule))

pub returns-in_ok-single-in-Two-clause-rule : goal.returns-in_ok-single-in-Two-clause-rule
returns-in_ok-single-in-Two-clause-rule g c =
    let first = c.through-in-Two.ensures.keeps in
    rw c.in-Two.is (reads_then _ first.stays first.stands c.through-in-Two-2.ensures.keeps.told
    (rw c.indirect_address-double.ensures.value at c.in_ok-single-in-Two.ensures.rule) c.through-in-Two-2.ensures.rule)

pub returns-in_err-double-in-Three-clause-rule : goal.returns-in_err-double-in-Three-clause-rule
returns-in_err-double-in-Three-clause-rule g c =
    rw (c.in-Three.is, c.from_residual-in_err-double-in-Three.ensures) (reads_none _ (rw c.indirect_address-triple.ensures.value at c.in_err-double-in-Three.ensures.rule))

pub returns-in_err-single-in-Three-clause-rule : goal.returns-in_err-single-in-Three-clause-rule
returns-in_err-single-in-Three-clause-rule g c =
    let first = c.through-in-Three.ensures.keeps in
    rw (c.in-Three.is, c.from_residual-in_err-single-in-Three.ensures) (reads_then _ first.stays first.stands c.through-in-Three-2.ensures.keeps.told
    (rw c.indirect_address-triple.ensures.value at c.in_ok-double-in-Three.ensures.rule) (reads_none _ c.in_err-single-in-Three.ensures.rule))

pub returns-in_ok-single-in-Three-clause-rule : goal.returns-in_ok-single-in-Three-clause-rule
returns-in_ok-single-in-Three-clause-rule g c =
    let first = c.through-in-Three.ensures.keeps in
    let second = c.through-in-Three-2.ensures.keeps in
    let third = c.through-in-Three-3.ensures.keeps in
    rw c.in-Three.is (reads_then _ first.stays first.stands (λ h. second.told (third.told h))
    (rw c.indirect_address-triple.ensures.value at c.in_ok-double-in-Three.ensures.rule)
    (reads_then _ second.stays second.stands third.told c.in_ok-single-in-Three.ensures.rule c.through-in-Three-3.ensures.rule))

pub returns-in-Direct-clause-fetched : goal.returns-in-Direct-clause-fetched
returns-in-Direct-clause-fetched g c =
    rw (c.in-Direct.is, c.direct_address.ensures.value) (fetches_known _ (g.met.V.View.fetched_none c.args.view.now))

pub returns-in_err-single-in-Two-clause-fetched : goal.returns-in_err-single-in-Two-clause-fetched
returns-in_err-single-in-Two-clause-fetched g c =
    rw (c.in-Two.is, c.from_residual.ensures) (fetches_none _ (rw c.indirect_address-double.ensures.value at c.in_err-single-in-Two.ensures.fetched))

pub returns-in_ok-single-in-Two-clause-fetched : goal.returns-in_ok-single-in-Two-clause-fetched
returns-in_ok-single-in-Two-clause-fetched g c =
    let first = c.through-in-Two.ensures.keeps in
    rw c.in-Two.is (fetches_then _ g.met.V.View.fetched_both first.stands c.through-in-Two-2.ensures.keeps.told
    (rw c.indirect_address-double.ensures.value at c.in_ok-single-in-Two.ensures.rule)
    (rw c.indirect_address-double.ensures.value at c.in_ok-single-in-Two.ensures.fetched) c.through-in-Two-2.ensures.fetched)

pub returns-in_err-double-in-Three-clause-fetched : goal.returns-in_err-double-in-Three-clause-fetched
returns-in_err-double-in-Three-clause-fetched g c =
    rw (c.in-Three.is, c.from_residual-in_err-double-in-Three.ensures) (fetches_none _ (rw c.indirect_address-triple.ensures.value at c.in_err-double-in-Three.ensures.fetched))

pub returns-in_err-single-in-Three-clause-fetched : goal.returns-in_err-single-in-Three-clause-fetched
returns-in_err-single-in-Three-clause-fetched g c =
    let first = c.through-in-Three.ensures.keeps in
    rw (c.in-Three.is, c.from_residual-in_err-single-in-Three.ensures) (fetches_then _ g.met.V.View.fetched_both first.stands c.through-in-Three-2.ensures.keeps.told
    (rw c.indirect_address-triple.ensures.value at c.in_ok-double-in-Three.ensures.rule)
    (rw c.indirect_address-triple.ensures.value at c.in_ok-double-in-Three.ensures.fetched) (fetches_none _ c.in_err-single-in-Three.ensures.fetched))

pub returns-in_ok-single-in-Three-clause-fetched : goal.returns-in_ok-single-in-Three-clause-fetched
returns-in_ok-single-in-Three-clause-fetched g c =
    let first = c.through-in-Three.ensures.keeps in
    let second = c.through-in-Three-2.ensures.keeps in
    let third = c.through-in-Three-3.ensures.keeps in
    rw c.in-Three.is (fetches_then _ g.met.V.View.fetched_both first.stands (λ h. second.told (third.told h))
    (rw c.indirect_address-triple.ensures.value at c.in_ok-double-in-Three.ensures.rule)
    (rw c.indirect_address-triple.ensures.value at c.in_ok-double-in-Three.ensures.fetched)
    (fetches_then _ g.met.V.View.fetched_both second.stands third.told c.in_ok-single-in-Three.ensures.rule c.in_ok-single-in-Three.ensures.fetched c.through-in-Three-3.ensures.fetched))

pub returns-in_err-single-in-Two-clause-lost : goal.returns-in_err-single-in-Two-clause-lost
returns-in_err-single-in-Two-clause-lost g c =
    rw (c.in-Two.is, c.from_residual.ensures) (loses_front _ _ (rw c.indirect_address-double.ensures.value at c.in_err-single-in-Two.ensures.lost))

pub returns-in_ok-single-in-Two-clause-lost : goal.returns-in_ok-single-in-Two-clause-lost
returns-in_ok-single-in-Two-clause-lost g c =
    let first = c.through-in-Two.ensures.keeps in
    rw c.in-Two.is (no_answer_then _ _ c.through-in-Two-2.result first.blocks first.stands c.through-in-Two-2.ensures.keeps.told
    (rw c.indirect_address-double.ensures.value at c.in_ok-single-in-Two.ensures.rule) c.through-in-Two-2.ensures.lost)

pub returns-in_err-double-in-Three-clause-lost : goal.returns-in_err-double-in-Three-clause-lost
returns-in_err-double-in-Three-clause-lost g c =
    rw (c.in-Three.is, c.from_residual-in_err-double-in-Three.ensures) (loses_front _ _ (rw c.indirect_address-triple.ensures.value at c.in_err-double-in-Three.ensures.lost))

pub returns-in_err-single-in-Three-clause-lost : goal.returns-in_err-single-in-Three-clause-lost
returns-in_err-single-in-Three-clause-lost g c =
    let first = c.through-in-Three.ensures.keeps in
    rw (c.in-Three.is, c.from_residual-in_err-single-in-Three.ensures) (loses_then _ first.blocks first.stands c.through-in-Three-2.ensures.keeps.told
    (rw c.indirect_address-triple.ensures.value at c.in_ok-double-in-Three.ensures.rule) (loses_front _ _ c.in_err-single-in-Three.ensures.lost))

pub returns-in_ok-single-in-Three-clause-lost : goal.returns-in_ok-single-in-Three-clause-lost
returns-in_ok-single-in-Three-clause-lost g c =
    let first = c.through-in-Three.ensures.keeps in
    let second = c.through-in-Three-2.ensures.keeps in
    let third = c.through-in-Three-3.ensures.keeps in
    rw c.in-Three.is (no_answer_then _ _ c.through-in-Three-3.result first.blocks first.stands (λ h. second.told (third.told h))
    (rw c.indirect_address-triple.ensures.value at c.in_ok-double-in-Three.ensures.rule)
    (no_answer_then _ _ c.through-in-Three-3.result second.blocks second.stands third.told c.in_ok-single-in-Three.ensures.rule c.through-in-Three-3.ensures.lost))
