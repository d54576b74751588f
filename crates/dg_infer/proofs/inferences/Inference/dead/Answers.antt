use Rattle.std.proofs.Common.{◌≡◌, ◌∙◌, List, Bool, true, false, Option, sym, ap, subst}
use Rattle.std.proofs.lemmas.Bool.{false≢true}
use Rattle.dg_model.specs.Marks.{is_marked}
use Rattle.ufs_model.specs.declared.geometries.Geometry.{Geometry}
use Rattle.dg_claims.specs.Kept.{claimed_by, table_of}
use Rattle.dg_infer.proofs.VerdictLaws.{dead_data, dead_free, dead_unclaimed, is_dead}
use Rattle.dg_infer.proofs.WantLaws.{data_not_system, owner_claims}
use Rattle.dg_infer.specs.Known.{HasClaim, IsDataBy}
use Rattle.dg_infer.specs.Meanings.{KeptInference}
use Rattle.dg_infer.proofs.inferences.Inference.dead.Goals as goal

pub returns-then-not-written-clause-is : goal.returns-then-not-written-clause-is
returns-then-not-written-clause-is c = λ table v fits stands. (
  λ t. absurd (false≢true t),
  λ dead. sym c.if-not-written.true ∙ sym fits.site ∙ dead.written,
)

pub returns-then-is_marked-clause-is : goal.returns-then-is_marked-clause-is
returns-then-is_marked-clause-is c = λ table v fits stands.
    let marked : is_marked c.args.self.now.pending c.args.block ≡ true = sym (ap (λ (k : KeptInference). is_marked k.pending c.args.block) c.self.view_is) ∙ sym (ap (λ (xs : List Bool). is_marked xs c.args.block) c.deref.ensures.value) ∙ sym c.is_marked.ensures ∙ c.if-is_marked.true in (
      λ t. absurd (false≢true t),
      λ dead. sym dead.mark ∙ marked,
    )

pub returns-then-is_claimed-clause-is : goal.returns-then-is_claimed-clause-is
returns-then-is_claimed-clause-is c = λ table v fits stands.
    let claim : HasClaim (claimed_by c.args.self.now.claims.runs) c.args.block = subst (λ (k : KeptInference). HasClaim (claimed_by k.claims.runs) c.args.block) c.self.view_is (c.is_claimed.ensures.0 c.if-is_claimed.true) in (
      λ t. absurd (false≢true t),
      λ dead. absurd (dead_unclaimed c.args.self.now table v c.args.block c.args.written fits stands dead claim),
    )

pub returns-then-not-is_marked-clause-is : goal.returns-then-not-is_marked-clause-is
returns-then-not-is_marked-clause-is c = λ table v fits stands.
    let marked : is_marked c.args.self.now.free c.args.block ≡ false = sym (ap (λ (k : KeptInference). is_marked k.free c.args.block) c.self.view_is) ∙ sym (ap (λ (xs : List Bool). is_marked xs c.args.block) c.deref-2.ensures.value) ∙ sym c.is_marked-2.ensures ∙ c.if-not-is_marked.true in (
      λ t. absurd (false≢true t),
      λ dead. sym marked ∙ dead_free c.args.self.now table v c.args.block c.args.written fits stands dead,
    )

pub returns-clause-is : goal.returns-clause-is
returns-clause-is c = λ table v fits stands.
    let pending : is_marked c.args.self.now.pending c.args.block ≡ false = sym (ap (λ (k : KeptInference). is_marked k.pending c.args.block) c.self.view_is) ∙ sym (ap (λ (xs : List Bool). is_marked xs c.args.block) c.deref.ensures.value) ∙ sym c.is_marked.ensures ∙ c.if-is_marked.false in
    let free : is_marked c.args.self.now.free c.args.block ≡ true = sym (ap (λ (k : KeptInference). is_marked k.free c.args.block) c.self.view_is) ∙ sym (ap (λ (xs : List Bool). is_marked xs c.args.block) c.deref-2.ensures.value) ∙ sym c.is_marked-2.ensures ∙ c.if-not-is_marked.false in
    let bare : HasClaim (claimed_by c.args.self.now.claims.runs) c.args.block → ⊥ = λ claim. false≢true (sym c.if-is_claimed.false ∙ c.is_claimed.ensures.1 (subst (λ (k : KeptInference). HasClaim (claimed_by k.claims.runs) c.args.block) (sym c.self.view_is) claim)) in
    let same = ap (λ (k : KeptInference). k.geometry) c.self.view_is in (
      λ t. is_dead c.args.self.now table v c.args.block c.args.written fits stands c.if-not-written.false pending bare free (subst (λ (o : Option Geometry). IsDataBy o c.args.block) same (c.is_data.ensures.0 t)),
      λ dead. c.is_data.ensures.1 (subst (λ (o : Option Geometry). IsDataBy o c.args.block) (sym same) (dead_data c.args.self.now table v c.args.block c.args.written fits stands dead)),
    )

pub returns-clause-mark : goal.returns-clause-mark
returns-clause-mark c = λ t.
    sym (ap (λ (k : KeptInference). is_marked k.pending c.args.block) c.self.view_is) ∙ sym (ap (λ (xs : List Bool). is_marked xs c.args.block) c.deref.ensures.value) ∙ sym c.is_marked.ensures ∙ c.if-is_marked.false

pub returns-clause-stray : goal.returns-clause-stray
returns-clause-stray c = λ t.
    let same = ap (λ (k : KeptInference). k.geometry) c.self.view_is in
    let found = subst (λ (o : Option Geometry). IsDataBy o c.args.block) same (c.is_data.ensures.0 t) in (
      data_not_system c.args.self.now.geometry c.args.block (found.0) (found.1),
      λ i of.
          let claim : HasClaim (table_of c.args.self.now.claims).claimed c.args.block = owner_claims (table_of c.args.self.now.claims) c.args.block i (of.0) (of.1) in
          false≢true (sym c.if-is_claimed.false ∙ c.is_claimed.ensures.1 (subst (λ (k : KeptInference). HasClaim (table_of k.claims).claimed c.args.block) (sym c.self.view_is) claim)),
    )
