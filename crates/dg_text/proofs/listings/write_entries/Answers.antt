use Rattle.std.proofs.Common.{◌∙◌, ◌≡◌, ℕ, List, ◌+◌, ap, length}
use Rattle.dg_text.specs.Listings.{line_in}
use Rattle.dg_text.specs.ToldSteps.{on_err}
use Rattle.dg_text.specs.LineCalls.{entry_calls, pieces}
use Rattle.dg_text.proofs.CallSums.{calls_more, calls_within}
use Rattle.dg_text.proofs.FileLines.{took_line_more, took_part_of_lines}
use Rattle.dg_text.proofs.listings.write_entries.Goals as goal
use Rattle.dg_text.specs.declared.listings.Form.{Form}
use Rattle.ufs_model.specs.Listings.{Listed}
use Rattle.ufs_model.specs.declared.inodes.Kind.{Kind}

-- the line of what the entry says of itself
own_line : (form : Form) (entry : Listed) (depth inode : ℕ) (kind : Kind) (size : ℕ) (name : List ℕ) → depth ≡ entry.depth → inode ≡ entry.inode → kind ≡ entry.kind
    → size ≡ entry.size → name ≡ entry.name → line_in form (record { depth = depth; inode = inode; kind = kind; size = size; name = name }) ≡ line_in form entry
own_line form entry depth inode kind size name a b c d e = λ i. line_in form (record { depth = a i; inode = b i; kind = c i; size = d i; name = e i })

pub returns-in_err-write_entry_line-clause-err : goal.returns-in_err-write_entry_line-clause-err
returns-in_err-write_entry_line-clause-err g c =
    let entry = c.entry-item.result in
    let same = own_line c.args.form entry c.depth.result c.inode.result c.kind.result c.size.result c.name.result.now c.depth.ensures c.inode.ensures c.kind.ensures c.size.ensures c.name.ensures in
    on_err c.from_residual.result
    (took_part_of_lines (line_in c.args.form) c.args.entries.now c.loop-entry.entry-index entry _ c.loop-entry-test.true c.entry-item.is same
    _ _ _ c.loop-entry.invariant.told c.in_err-write_entry_line.ensures.err)

pub loop-entry-preserved : goal.loop-entry-preserved
loop-entry-preserved g c =
    let entry = c.entry-item.result in
    let same = own_line c.args.form entry c.depth.result c.inode.result c.kind.result c.size.result c.name.result.now c.depth.ensures c.inode.ensures c.kind.ensures c.size.ensures c.name.ensures in
    record {
      told = took_line_more (line_in c.args.form) c.args.entries.now c.loop-entry.entry-index entry _ c.loop-entry-test.true c.entry-item.is same
          _ _ _ c.loop-entry.invariant.told c.in_ok-write_entry_line.ensures.ok;
      calls = calls_more g.K.Sink.whole g.K.Sink.calls (line_in c.args.form) entry_calls c.args.entries.now c.loop-entry.entry-index entry _ _ _ _ _ c.loop-entry-test.true c.entry-item.is same
          (ap (λ (name : List ℕ). pieces 255 (length name)) c.name.ensures) c.loop-entry.invariant.calls c.in_ok-write_entry_line.ensures.calls;
      kept = c.in_ok-write_entry_line.ensures.cause.kept ∙ c.loop-entry.invariant.kept;
    }

pub returns-in_err-write_entry_line-clause-calls : goal.returns-in_err-write_entry_line-clause-calls
returns-in_err-write_entry_line-clause-calls g c =
    let entry = c.entry-item.result in
    let same = own_line c.args.form entry c.depth.result c.inode.result c.kind.result c.size.result c.name.result.now c.depth.ensures c.inode.ensures c.kind.ensures c.size.ensures c.name.ensures in
    calls_within g.K.Sink.whole g.K.Sink.calls (line_in c.args.form) entry_calls c.args.entries.now (c.loop-entry.entry-index + 1) _ _
    (calls_more g.K.Sink.whole g.K.Sink.calls (line_in c.args.form) entry_calls c.args.entries.now c.loop-entry.entry-index entry _ _ _ _ _ c.loop-entry-test.true c.entry-item.is same
    (ap (λ (name : List ℕ). pieces 255 (length name)) c.name.ensures) c.loop-entry.invariant.calls c.in_err-write_entry_line.ensures.calls)

pub returns-clause-calls : goal.returns-clause-calls
returns-clause-calls g c =
    calls_within g.K.Sink.whole g.K.Sink.calls (line_in c.args.form) entry_calls c.args.entries.now c.loop-entry.entry-index _ _ c.loop-entry.invariant.calls
