use Rattle.std.proofs.Common.{rules, ◌≡◌, ◌≢◌, refl, sym, ◌∙◌, slice_index_or}
use Rattle.std.specs.Prelude.{◌==◌}
use Rattle.dg_stop.specs.declared.headers.Header.{Header}
use Rattle.dg_stop.proofs.FoundLemmas.{ReadsAs, is_mark, mark_is, read_some, read_none}
use Rattle.dg_stop.proofs.found_headers.parse_header.Goals as goal

pub returns-then-eq : goal.returns-then-eq
returns-then-eq c =
    let own : Header = record {
      sequence = c.number_at.result;
      committed = slice_index_or c.args.page.now 16 0 == 0x43;
      member = slice_index_or c.args.page.now 17 0;
      size = c.number_at-2.result;
      room = c.word_at.result;
      extra = c.word_at-2.result;
    } in
    let numbers : ReadsAs c.args.page.now own = record {
      sequence = sym c.number_at.ensures;
      mark = mark_is (slice_index_or c.args.page.now 16 0);
      unmarked = is_mark (slice_index_or c.args.page.now 16 0);
      member = refl;
      size = sym c.number_at-2.ensures;
      room = sym c.word_at.ensures;
      extra = sym c.word_at-2.ensures;
    } in
    let same : c.args.page.now ≡ c.fill_header.new.buf = search rules in
    record { header = λ h is e. read_some c.args.page.now own h numbers is e; only = same ∙ c.fill_header.ensures }

pub returns : goal.returns
returns c =
    let own : Header = record {
      sequence = c.number_at.result;
      committed = slice_index_or c.args.page.now 16 0 == 0x43;
      member = slice_index_or c.args.page.now 17 0;
      size = c.number_at-2.result;
      room = c.word_at.result;
      extra = c.word_at-2.result;
    } in
    let numbers : ReadsAs c.args.page.now own = record {
      sequence = sym c.number_at.ensures;
      mark = mark_is (slice_index_or c.args.page.now 16 0);
      unmarked = is_mark (slice_index_or c.args.page.now 16 0);
      member = refl;
      size = sym c.number_at-2.ensures;
      room = sym c.word_at.ensures;
      extra = sym c.word_at-2.ensures;
    } in
    let differs : c.args.page.now ≢ c.fill_header.new.buf = search rules in
    record { header = λ h is e. absurd (differs (read_none c.args.page.now c.fill_header.new.buf own h numbers c.fill_header.ensures is e)); only = tt }
