use Rattle.std.proofs.Common.{sym, subst}
use Rattle.dg_claims.specs.Kept.{table_of}
use Rattle.dg_claims.specs.Tables.{IsTableOf}
use Rattle.dg_infer.proofs.ChainLaws.{three_above}
use Rattle.dg_infer.proofs.VerdictLaws.{chain_on, fits_table}
use Rattle.dg_infer.specs.Meanings.{KeptInference}
use Rattle.dg_infer.proofs.inferences.Inference.claimant.Goals as goal

pub returns-in-Owned : goal.returns-in-Owned
returns-in-Owned c = λ table v fits stands plain.
    let of = subst (λ (k : KeptInference). IsTableOf table.shape.l table.shape.n v (table_of k.claims)) (sym c.self.view_is) (fits_table c.args.self.now table v c.args.block c.args.written fits stands) in
    let chain = chain_on table.shape.l table.shape.n v (table_of c.self.inside.claims) c.args.block c.chain_of.result of
    (c.chain_of.ensures (c.tables_of_volumes.ensures.leveled table.shape.l table.shape.n v (table_of c.self.inside.claims) of) (three_above (table_of c.self.inside.claims) c.args.block)) in
    rw c.in-Owned.is at chain

pub returns-in-Shared : goal.returns-in-Shared
returns-in-Shared c = λ table v fits stands plain.
    let of = subst (λ (k : KeptInference). IsTableOf table.shape.l table.shape.n v (table_of k.claims)) (sym c.self.view_is) (fits_table c.args.self.now table v c.args.block c.args.written fits stands) in
    let chain = chain_on table.shape.l table.shape.n v (table_of c.self.inside.claims) c.args.block c.chain_of.result of
    (c.chain_of.ensures (c.tables_of_volumes.ensures.leveled table.shape.l table.shape.n v (table_of c.self.inside.claims) of) (three_above (table_of c.self.inside.claims) c.args.block)) in
    rw c.in-Shared.is at chain

pub returns-in-Unclaimed : goal.returns-in-Unclaimed
returns-in-Unclaimed c = λ table v fits stands plain.
    let of = subst (λ (k : KeptInference). IsTableOf table.shape.l table.shape.n v (table_of k.claims)) (sym c.self.view_is) (fits_table c.args.self.now table v c.args.block c.args.written fits stands) in
    let chain = chain_on table.shape.l table.shape.n v (table_of c.self.inside.claims) c.args.block c.chain_of.result of
    (c.chain_of.ensures (c.tables_of_volumes.ensures.leveled table.shape.l table.shape.n v (table_of c.self.inside.claims) of) (three_above (table_of c.self.inside.claims) c.args.block)) in
    let none = rw c.in-Unclaimed.is at chain in
    c.unclaimed.ensures table v fits stands (record { role = plain; unclaimed = λ claim. none (claim.0) (claim.1) })
