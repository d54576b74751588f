use Rattle.std.proofs.Common.{◌≡◌, ◌∙◌, inl, inr, Some, sym, ap, subst}
use Rattle.std.proofs.lemmas.Bool.{false≢true}
use Rattle.ufs_model.specs.declared.inodes.Kind.TheVariants.{Regular}
use Rattle.ufs_model.specs.Owners.{IsOwner}
use Rattle.dg_claims.specs.Kept.{table_of}
use Rattle.dg_claims.specs.Tables.{TableClaims}
use Rattle.dg_infer.proofs.VerdictLaws.{owned_on, owner_on, regular_on, system_on}
use Rattle.dg_infer.specs.Known.{is_system_by}
use Rattle.dg_infer.specs.Inferences.{kept_in}
use Rattle.dg_infer.specs.Meanings.{KeptInference, kind_at}
use Rattle.dg_infer.proofs.inferences.Inference.want.Goals as goal

pub returns-then-is_system-clause-is : goal.returns-then-is_system-clause-is
returns-then-is_system-clause-is c = λ v stands.
    inl ((system_on c.args.self.now.l c.args.self.now.n v c.args.self.now.geometry c.args.block stands.geometry).1
    (sym (ap (λ (k : KeptInference). is_system_by k.geometry c.args.block) c.self.view_is) ∙ sym c.is_system.ensures ∙ c.if-is_system.true))

pub returns-in_default-clause-is : goal.returns-in_default-clause-is
returns-in_default-clause-is c = λ v stands. (
  λ own. false≢true (sym c.if-is_system.false ∙ c.is_system.ensures ∙ ap (λ (k : KeptInference). is_system_by k.geometry c.args.block) c.self.view_is
      ∙ (system_on c.args.self.now.l c.args.self.now.n v c.args.self.now.geometry c.args.block stands.geometry).0 own),
  λ i of. owner_on (kept_in c.self.inside) c.args.self.now v c.args.block i (of.0) c.self.view_is stands (c.in_default.ensures.none i (of.0)) (of.1),
)

pub returns-then-is_regular-clause-is : goal.returns-then-is_regular-clause-is
returns-then-is_regular-clause-is c = λ v stands.
    let kind : kind_at c.args.self.now.kinds c.in-Some.inode ≡ Some Regular = sym (ap (λ (k : KeptInference). kind_at k.kinds c.in-Some.inode) c.self.view_is) ∙ c.is_regular.ensures.0 c.if-is_regular.true in (
      (c.in-Some.field-0-1, owned_on (kept_in c.self.inside) c.args.self.now v c.args.block c.in-Some.inode c.in-Some.field-0-1 c.self.view_is stands c.in-Some.ensures.owner),
      (regular_on c.args.self.now.l c.args.self.now.n v c.args.self.now.geometry c.in-Some.inode stands.geometry).0 (sym (stands.kinds c.in-Some.inode) ∙ kind),
    )

pub returns-clause-is : goal.returns-clause-is
returns-clause-is c = λ v stands.
    inr (
      c.in-Some.inode,
      (c.in-Some.field-0-1, owned_on (kept_in c.self.inside) c.args.self.now v c.args.block c.in-Some.inode c.in-Some.field-0-1 c.self.view_is stands c.in-Some.ensures.owner),
      λ file.
          let kind = (regular_on c.args.self.now.l c.args.self.now.n v c.args.self.now.geometry c.in-Some.inode stands.geometry).1 file in
          false≢true (sym c.if-is_regular.false ∙ c.is_regular.ensures.1 (ap (λ (k : KeptInference). kind_at k.kinds c.in-Some.inode) c.self.view_is ∙ stands.kinds c.in-Some.inode ∙ kind)),
    )

pub returns-then-is_system-clause-by : goal.returns-then-is_system-clause-by
returns-then-is_system-clause-by c =
    inl (sym (ap (λ (k : KeptInference). is_system_by k.geometry c.args.block) c.self.view_is) ∙ sym c.is_system.ensures ∙ c.if-is_system.true)

pub returns-in_default-clause-by : goal.returns-in_default-clause-by
returns-in_default-clause-by c = (
  sym (ap (λ (k : KeptInference). is_system_by k.geometry c.args.block) c.self.view_is) ∙ sym c.is_system.ensures ∙ c.if-is_system.false,
  λ i of. c.in_default.ensures.none i (of.0) (subst (λ (k : KeptInference). IsOwner (TableClaims (table_of k.claims)) c.args.block i (of.0)) (sym c.self.view_is) (of.1)),
)

pub returns-then-is_regular-clause-by : goal.returns-then-is_regular-clause-by
returns-then-is_regular-clause-by c = (
  sym (ap (λ (k : KeptInference). is_system_by k.geometry c.args.block) c.self.view_is) ∙ sym c.is_system.ensures ∙ c.if-is_system.false,
  (c.in-Some.field-0-1, subst (λ (k : KeptInference). IsOwner (TableClaims (table_of k.claims)) c.args.block c.in-Some.inode c.in-Some.field-0-1) c.self.view_is c.in-Some.ensures.owner),
  sym (ap (λ (k : KeptInference). kind_at k.kinds c.in-Some.inode) c.self.view_is) ∙ c.is_regular.ensures.0 c.if-is_regular.true,
)

pub returns-clause-by : goal.returns-clause-by
returns-clause-by c = inr (
  sym (ap (λ (k : KeptInference). is_system_by k.geometry c.args.block) c.self.view_is) ∙ sym c.is_system.ensures ∙ c.if-is_system.false,
  (
    c.in-Some.inode,
    (c.in-Some.field-0-1, subst (λ (k : KeptInference). IsOwner (TableClaims (table_of k.claims)) c.args.block c.in-Some.inode c.in-Some.field-0-1) c.self.view_is c.in-Some.ensures.owner),
    λ regular. false≢true (sym c.if-is_regular.false ∙ c.is_regular.ensures.1 (ap (λ (k : KeptInference). kind_at k.kinds c.in-Some.inode) c.self.view_is ∙ regular)),
  ),
)
