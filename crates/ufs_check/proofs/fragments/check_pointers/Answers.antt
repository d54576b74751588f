use Rattle.std.proofs.Common.{◌∙◌, ◌<◌, arith, refl}
use Rattle.std.proofs.lemmas.Bool.Decides.{not_from_Decides}
use Rattle.dg_io.specs.ViewLaws.{keeps_both}
use Rattle.ufs_model.specs.Metadata.{IsMetadataBy}
use Rattle.dg_claims.specs.Kept.{table_of}
use Rattle.dg_claims.specs.ThereLaws.{not_before, there_one}
use Rattle.ufs_check.specs.Fragments.{IsClaimedBy}
use Rattle.ufs_check.proofs.ClaimLaws.{fetches_fewer, loses_fewer, upper_metadata}
use Rattle.ufs_check.proofs.InodeLaws.{one_block}
use Rattle.ufs_pointer.specs.KindLaws.{loses_once, only_once}
use Rattle.ufs_check.proofs.PassLaws.{lost_later, only_both, read_value}
use Rattle.ufs_check.proofs.PointerLaws.{no_pointers}
use Rattle.ufs_check.proofs.fragments.check_pointers.Goals as goal

pub returns-then-not-is_upper-clause-found : goal.returns-then-not-is_upper-clause-found
returns-then-not-is_upper-clause-found g c = λ is told v claimed so_far.
    no_pointers c.args.g.now (table_of c.args.claims.now) v c.args.f c.args.faults.now (claimed.1) (not_from_Decides c.is_upper.result c.is_upper.ensures c.if-not-is_upper.true) so_far

pub returns-in_default-clause-gone : goal.returns-in_default-clause-gone
returns-in_default-clause-gone g c = λ missed. loses_fewer c.args.g.now (table_of c.args.claims.now) refl (λ v stands. stands) c.in_default.ensures.gone

pub returns-then-not-read_aside-clause-gone : goal.returns-then-not-read_aside-clause-gone
returns-then-not-read_aside-clause-gone g c = λ missed.
    let first = c.read_limit.ensures.keeps in
    let upper = c.is_upper.ensures.0 c.if-not-is_upper.false in
    let inside : c.args.f < g.V.View.count c.read_limit.new.view = let low = c.requires.inside in let high = c.requires.geometry.size in let same = first.blocks in omega arith in
    lost_later {still = IsClaimedBy (g.V.View.stands_for c.read_limit.new.view) c.args.g.now (table_of c.args.claims.now)} first.blocks (λ v claimed. (first.stands v (claimed.0), claimed.1))
    (loses_once (IsMetadataBy c.args.g.now) inside (c.read_aside.ensures.gone c.if-not-read_aside.true) (λ v claimed. upper_metadata c.args.g.now (table_of c.args.claims.now) v c.args.f upper (claimed.1)))

pub returns-then-not-read_aside-clause-fetched : goal.returns-then-not-read_aside-clause-fetched
returns-then-not-read_aside-clause-fetched g c =
    let table = table_of c.args.claims.now in
    let upper = c.is_upper.ensures.0 c.if-not-is_upper.false in
    only_both {still = IsClaimedBy (g.V.View.stands_for c.read_limit.new.view) c.args.g.now table} g.met.V.View.fetched_both (λ v claimed. (c.read_limit.ensures.keeps.stands v (claimed.0), claimed.1)) c.read_aside.ensures.keeps.told
    (fetches_fewer c.args.g.now table c.read_limit.ensures.fetched)
    (only_once (IsMetadataBy c.args.g.now) (λ v claimed. upper_metadata c.args.g.now table v c.args.f upper (claimed.1)) c.read_aside.ensures.once)

pub returns-clause-found : goal.returns-clause-found
returns-clause-found g c = λ is told v claimed so_far.
    let before = c.read_limit.ensures.keeps in
    c.in_ok-note_pointers.ensures.pointers v (claimed.1)
    (c.aside.ensures ∙ rw (c.requires.geometry.fsize, ← before.bytes)
    (read_value c.read_aside.result _ (rw one_block at c.read_aside.ensures.rule) c.if-not-read_aside.false told v (before.stands v (claimed.0))))
    (c.in-Some.ensures.found (c.read_aside.ensures.keeps.told told) v (claimed.0) (claimed.1))
    so_far

pub returns-then-not-is_upper-clause-whole : goal.returns-then-not-is_upper-clause-whole
returns-then-not-is_upper-clause-whole g c = λ is told v stands upper.
    absurd (not_from_Decides c.is_upper.result c.is_upper.ensures c.if-not-is_upper.true upper)

pub returns-clause-whole : goal.returns-clause-whole
returns-clause-whole g c = λ is told v stands upper.
    let before = c.read_limit.ensures.keeps in
    let read = read_value c.read_aside.result _ (rw one_block at c.read_aside.ensures.rule) c.if-not-read_aside.false told v (before.stands v stands) in
    rw (c.requires.geometry.fsize, ← before.bytes, ← read) c.read_aside.ensures.room

pub returns-clause-fetched : goal.returns-clause-fetched
returns-clause-fetched g c =
    let table = table_of c.args.claims.now in
    let upper = c.is_upper.ensures.0 c.if-not-is_upper.false in
    only_both {still = IsClaimedBy (g.V.View.stands_for c.read_limit.new.view) c.args.g.now table} g.met.V.View.fetched_both (λ v claimed. (c.read_limit.ensures.keeps.stands v (claimed.0), claimed.1)) c.read_aside.ensures.keeps.told
    (fetches_fewer c.args.g.now table c.read_limit.ensures.fetched)
    (only_once (IsMetadataBy c.args.g.now) (λ v claimed. upper_metadata c.args.g.now table v c.args.f upper (claimed.1)) c.read_aside.ensures.once)

pub returns-in_err-note_pointers-clause-fetched : goal.returns-in_err-note_pointers-clause-fetched
returns-in_err-note_pointers-clause-fetched g c =
    let table = table_of c.args.claims.now in
    let upper = c.is_upper.ensures.0 c.if-not-is_upper.false in
    only_both {still = IsClaimedBy (g.V.View.stands_for c.read_limit.new.view) c.args.g.now table} g.met.V.View.fetched_both (λ v claimed. (c.read_limit.ensures.keeps.stands v (claimed.0), claimed.1)) c.read_aside.ensures.keeps.told
    (fetches_fewer c.args.g.now table c.read_limit.ensures.fetched)
    (only_once (IsMetadataBy c.args.g.now) (λ v claimed. upper_metadata c.args.g.now table v c.args.f upper (claimed.1)) c.read_aside.ensures.once)

pub returns-then-not-read_aside-clause-keeps : goal.returns-then-not-read_aside-clause-keeps
returns-then-not-read_aside-clause-keeps g c = keeps_both g.met.V.View.further c.args.view.now c.read_limit.new.view c.read_aside.new.view c.read_limit.ensures.keeps c.read_aside.ensures.keeps

pub returns-in_err-note_pointers-clause-keeps : goal.returns-in_err-note_pointers-clause-keeps
returns-in_err-note_pointers-clause-keeps g c = keeps_both g.met.V.View.further c.args.view.now c.read_limit.new.view c.read_aside.new.view c.read_limit.ensures.keeps c.read_aside.ensures.keeps

pub returns-clause-keeps : goal.returns-clause-keeps
returns-clause-keeps g c = keeps_both g.met.V.View.further c.args.view.now c.read_limit.new.view c.read_aside.new.view c.read_limit.ensures.keeps c.read_aside.ensures.keeps

pub returns-then-not-is_upper-clause-there : goal.returns-then-not-is_upper-clause-there
returns-then-not-is_upper-clause-there g c = λ is told v stands upper.
    absurd (not_from_Decides c.is_upper.result c.is_upper.ensures c.if-not-is_upper.true upper)

pub returns-clause-there : goal.returns-clause-there
returns-clause-there g c = λ is told v stands upper.
    let before = c.read_limit.ensures.keeps in
    not_before (g.V.View.is_gone c.args.view.now) (g.V.View.is_gone c.read_limit.new.view) c.args.f before.stays
    ((there_one (g.V.View.size c.read_limit.new.view) c.args.f c.read_aside.result _ c.read_aside.ensures.rule c.if-not-read_aside.false).each told v (before.stands v stands) c.args.f refl)
