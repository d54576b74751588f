use Rattle.std.proofs.Common.{◌∷◌, [], refl}
use Rattle.ufs_dir.specs.Steps.{entry_of}
use Rattle.ufs_model.specs.Listings.{listed_as}
use Rattle.ufs_path.proofs.EntryLaws.{lines_none, one_line, one_unread}
use Rattle.ufs_path.proofs.ConsultLaws.{consults_along}
use Rattle.ufs_path.proofs.NeedLaws.{entry_needed}
use Rattle.ufs_path.proofs.walks.hand_entry.Goals as goal

pub returns-in-Ok-line-clause-rule : goal.returns-in-Ok-line-clause-rule
returns-in-Ok-line-clause-rule g c = record {
  lines = listed_as 1 (entry_of c.args.entry.now) c.in-Ok.inode ∷ [];
  count = refl;
  taken = rw c.kind.ensures at c.in-Ok-line.ensures.ok;
  read = one_line c.args.g.now 1 (entry_of c.args.entry.now) c.in-Ok.inode c.in-Ok.ensures.rule;
}

pub returns-in-Err-line-clause-rule : goal.returns-in-Err-line-clause-rule
returns-in-Err-line-clause-rule g c = record {
  front = entry_of c.args.entry.now ∷ [];
  rest = [];
  whole = refl;
  lines = listed_as 1 (entry_of c.args.entry.now) c.in-Ok.inode ∷ [];
  taken = rw c.kind.ensures at c.in-Err-line.ensures.err;
  read = one_line c.args.g.now 1 (entry_of c.args.entry.now) c.in-Ok.inode c.in-Ok.ensures.rule;
  rose = c.in-Err-line.ensures.cause.failed;
}

pub returns-in-Err-clause-rule : goal.returns-in-Err-clause-rule
returns-in-Err-clause-rule g c = record {
  front = [];
  rest = entry_of c.args.entry.now ∷ [];
  whole = refl;
  handed = record {
    lines = [];
    count = refl;
    taken = g.met.O.Listing.nothing c.args.out.now;
    read = lines_none c.args.g.now 1;
  };
  unread = one_unread c.args.g.now 1 (entry_of c.args.entry.now) c.in-Err.fault c.read_named.ensures.keeps.stays c.in-Err.ensures.rule;
}

pub returns-in-Ok-line-clause-consults : goal.returns-in-Ok-line-clause-consults
returns-in-Ok-line-clause-consults g c = consults_along g.V.View (λ is v holds. (holds, entry_needed c.args.g.now 1 (entry_of c.args.entry.now) v)) (λ h. absurd h) c.read_named.ensures.consults

pub returns-in-Err-line-clause-consults : goal.returns-in-Err-line-clause-consults
returns-in-Err-line-clause-consults g c = consults_along g.V.View (λ is v holds. (holds, entry_needed c.args.g.now 1 (entry_of c.args.entry.now) v)) (λ h. absurd h) c.read_named.ensures.consults

pub returns-in-Err-clause-consults : goal.returns-in-Err-clause-consults
returns-in-Err-clause-consults g c = consults_along g.V.View (λ is v holds. (holds, entry_needed c.args.g.now 1 (entry_of c.args.entry.now) v)) (λ h. h) c.in-Err.ensures.consults
