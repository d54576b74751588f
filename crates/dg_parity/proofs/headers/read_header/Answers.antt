use Rattle.std.proofs.Common.{rules, ◌≡◌, ◌≢◌, refl, sym, ◌∙◌, slice_index_or}
use Rattle.dg_parity.specs.declared.headers.Header.{Header}
use Rattle.dg_parity.proofs.PageLemmas.{HasNumbers, read_some, read_none}
use Rattle.dg_parity.proofs.headers.read_header.Goals as goal

pub returns-then-eq : goal.returns-then-eq
returns-then-eq c =
    let own : Header = record {
      epoch = c.number_at.result;
      group = slice_index_or c.args.page.now 16 0;
      place = slice_index_or c.args.page.now 17 0;
      disks = slice_index_or c.args.page.now 18 0;
      marks = slice_index_or c.args.page.now 19 0;
      size = c.number_at-2.result;
    } in
    let numbers : HasNumbers c.args.page.now own = record {
      epoch = sym c.number_at.ensures;
      group = refl;
      place = refl;
      disks = refl;
      marks = refl;
      size = sym c.number_at-2.ensures;
    } in
    let same : c.args.page.now ≡ c.fill_header.new.page = search rules in
    record { header = λ h is e. read_some c.args.page.now own h numbers is e; only = same ∙ c.fill_header.ensures }

pub returns : goal.returns
returns c =
    let own : Header = record {
      epoch = c.number_at.result;
      group = slice_index_or c.args.page.now 16 0;
      place = slice_index_or c.args.page.now 17 0;
      disks = slice_index_or c.args.page.now 18 0;
      marks = slice_index_or c.args.page.now 19 0;
      size = c.number_at-2.result;
    } in
    let numbers : HasNumbers c.args.page.now own = record {
      epoch = sym c.number_at.ensures;
      group = refl;
      place = refl;
      disks = refl;
      marks = refl;
      size = sym c.number_at-2.ensures;
    } in
    let differs : c.args.page.now ≢ c.fill_header.new.page = search rules in
    record { header = λ h is e. absurd (differs (read_none c.args.page.now c.fill_header.new.page own h numbers c.fill_header.ensures is e)); only = tt }
