use Rattle.std.proofs.Common.{◌≡◌, ◌∙◌, ◌<◌, true, false, length, sym, arith}
use Rattle.ufs_check.proofs.OwnedLaws.{owned_read}
use Rattle.ufs_check.proofs.ParentLaws.{dots_say, dots_short, dots_unfit}
use Rattle.ufs_check.proofs.parents.up_of.Goals as goal

pub returns-then-entries-lt2 : goal.returns-then-entries-lt2
returns-then-entries-lt2 c = λ g v all.
    let short : length c.args.entries.now < 2 = omega arith in
    dots_short g v c.args.i c.args.entries.now all short

pub returns-then-not-fits_own : goal.returns-then-not-fits_own
returns-then-not-fits_own c = λ g v all.
    let entries = c.args.entries.now in
    let first : 0 < length c.args.entries.now = omega arith in
    dots_unfit g v c.args.i entries c.index-entries-0.result all (owned_read entries 0 c.index-entries-0.result first c.index-entries-0.is)
    (λ fits. let no : true ≡ false = sym (c.fits_own.ensures.1 fits) ∙ c.if-not-fits_own.true in cc)

pub returns : goal.returns
returns c = λ g v all.
    let entries = c.args.entries.now in
    let first : 0 < length c.args.entries.now = omega arith in
    let second : 1 < length c.args.entries.now = omega arith in
    dots_say g v c.args.i entries c.index-entries-0.result c.index-entries-1.result c.up_by.result all
    (owned_read entries 0 c.index-entries-0.result first c.index-entries-0.is) (owned_read entries 1 c.index-entries-1.result second c.index-entries-1.is)
    (c.fits_own.ensures.0 c.if-not-fits_own.false) c.up_by.ensures
