use Rattle.std.proofs.Common.{◌≡◌, ◌∙◌, Ok, length, rules}
use Rattle.std.proofs.lemmas.Result.{err_from_is_err_and}
use Rattle.dg_io.specs.ViewLaws.{keeps_both, keeps_same}
use Rattle.ufs_model.proofs.ReadingLaws.{begins, ends, ends_refused, goes_on}
use Rattle.ufs_path.proofs.LookLaws.{last_inode, next_inode}
use Rattle.ufs_path.specs.Answers.{refusal_of}
use Rattle.ufs_path.proofs.ConsultLaws.{consults_both, consults_none}
use Rattle.ufs_path.proofs.NeedLaws.{leads_first, leads_on, next_inode as next_leads, last_inode as last_leads}
use Rattle.ufs_path.proofs.looks.follow_names.Goals as goal

pub returns-in_err-inode-clause-rule : goal.returns-in_err-inode-clause-rule
returns-in_err-inode-clause-rule g c =
    let p = err_from_is_err_and c.from_residual.result c.from_residual.ensures.1 in
    let so_far = c.loop-rest.invariant.keeps in
    rw (p.1, p.2) (ends_refused refusal_of _ _ c.read_named.ensures.keeps.stays so_far.stands c.read_named.ensures.keeps.told
    (next_inode c.args.g.now c.loop-rest.rest.now c.next_name.result.0.now c.next_name.result.1.now c.loop-rest.number c.next_name.ensures.names c.loop-rest.invariant.rest)
    c.in_err-inode.ensures.rule)

pub returns-in_err-number-clause-rule : goal.returns-in_err-number-clause-rule
returns-in_err-number-clause-rule g c =
    let p = err_from_is_err_and c.from_residual-in_err-number.result c.from_residual-in_err-number.ensures.1 in
    let so_far = c.loop-rest.invariant.keeps in
    let first = c.read_named.ensures.keeps in
    rw (p.1, p.2) (ends_refused refusal_of _ _ c.find_name.ensures.keeps.stays (λ v h. first.stands v (so_far.stands v h)) c.find_name.ensures.keeps.told
    (goes_on _ c.in_ok-inode.inode first.stays so_far.stands first.told
    (next_inode c.args.g.now c.loop-rest.rest.now c.next_name.result.0.now c.next_name.result.1.now c.loop-rest.number c.next_name.ensures.names c.loop-rest.invariant.rest)
    c.in_ok-inode.ensures.rule)
    c.in_err-number.ensures.rule)

pub loop-rest-preserved : goal.loop-rest-preserved
loop-rest-preserved g c =
    let so_far = c.loop-rest.invariant.keeps in
    let first = c.read_named.ensures.keeps in
    let second = c.find_name.ensures.keeps in record {
      keeps = keeps_both g.met.V.View.further c.args.view.now c.read_named.new.view c.find_name.new.view
          (keeps_both g.met.V.View.further c.args.view.now c.loop-rest.view c.read_named.new.view so_far first) second;
      levels = c.find_name.ensures.levels ∙ c.read_named.ensures.levels ∙ c.loop-rest.invariant.levels;
      rest = goes_on _ c.in_ok-number.number second.stays (λ v h. first.stands v (so_far.stands v h)) second.told
          (goes_on _ c.in_ok-inode.inode first.stays so_far.stands first.told
          (next_inode c.args.g.now c.loop-rest.rest.now c.next_name.result.0.now c.next_name.result.1.now c.loop-rest.number c.next_name.ensures.names c.loop-rest.invariant.rest)
          c.in_ok-inode.ensures.rule)
          c.in_ok-number.ensures.rule;
      consulted = consults_both g.V.View g.met.V.View.fetched_both (keeps_both g.met.V.View.further c.args.view.now c.loop-rest.view c.read_named.new.view so_far first) second
          (λ is v holds. (first.stands v (so_far.stands v holds), leads_first _ _ (leads_on _ _ c.in_ok-inode.inode so_far.stands first.told (next_leads c.args.g.now c.loop-rest.rest.now c.next_name.result.0.now c.next_name.result.1.now c.loop-rest.number c.next_name.ensures.names c.loop-rest.invariant.leads) c.in_ok-inode.ensures.rule) (second.told is) v holds)) (λ h. absurd h)
          (consults_both g.V.View g.met.V.View.fetched_both so_far first
          (λ is v holds. (so_far.stands v holds, leads_first _ _ (next_leads c.args.g.now c.loop-rest.rest.now c.next_name.result.0.now c.next_name.result.1.now c.loop-rest.number c.next_name.ensures.names c.loop-rest.invariant.leads) (first.told is) v holds)) (λ h. h) c.loop-rest.invariant.consulted c.read_named.ensures.consults) c.find_name.ensures.consults;
      leads = leads_on _ _ c.in_ok-number.number (λ v h. first.stands v (so_far.stands v h)) second.told (leads_on _ _ c.in_ok-inode.inode so_far.stands first.told (next_leads c.args.g.now c.loop-rest.rest.now c.next_name.result.0.now c.next_name.result.1.now c.loop-rest.number c.next_name.ensures.names c.loop-rest.invariant.leads) c.in_ok-inode.ensures.rule) c.in_ok-number.ensures.rule;
    }

pub loop-rest-init : goal.loop-rest-init
loop-rest-init g c = record {
  keeps = keeps_same c.args.view.now c.requires.sound (g.met.V.View.unchanged c.args.view.now);
  levels = c.requires.levels;
  rest = begins _ _ _ _;
  consulted = consults_none g.V.View c.args.view.now _ _ (g.met.V.View.fetched_none c.args.view.now) (λ h. h);
  leads = record { go = λ is v holds b h. h };
}

pub returns-in_err-inode-2-clause-rule : goal.returns-in_err-inode-2-clause-rule
returns-in_err-inode-2-clause-rule g c =
    let p = err_from_is_err_and c.from_residual-in_err-inode-2.result c.from_residual-in_err-inode-2.ensures.1 in
    let none : length c.loop-rest.rest.now ≡ 0 = search rules in
    let so_far = c.loop-rest.invariant.keeps in
    rw (p.1, p.2) (ends_refused refusal_of _ _ c.read_named-2.ensures.keeps.stays so_far.stands c.read_named-2.ensures.keeps.told
    (last_inode c.args.g.now c.loop-rest.rest.now c.loop-rest.number none c.loop-rest.invariant.rest)
    c.in_err-inode-2.ensures.rule)

pub returns-clause-rule : goal.returns-clause-rule
returns-clause-rule g c =
    let none : length c.loop-rest.rest.now ≡ 0 = search rules in
    let so_far = c.loop-rest.invariant.keeps in
    ends (Ok (c.loop-rest.number, c.in_ok-inode-2.inode))
    (goes_on _ c.in_ok-inode-2.inode c.read_named-2.ensures.keeps.stays so_far.stands c.read_named-2.ensures.keeps.told
    (last_inode c.args.g.now c.loop-rest.rest.now c.loop-rest.number none c.loop-rest.invariant.rest)
    c.in_ok-inode-2.ensures.rule)

pub returns-in_err-inode-clause-consults : goal.returns-in_err-inode-clause-consults
returns-in_err-inode-clause-consults g c =
    let p = err_from_is_err_and c.from_residual.result c.from_residual.ensures.1 in
    let so_far = c.loop-rest.invariant.keeps in
    let first = c.read_named.ensures.keeps in
    rw (p.1, p.2) (consults_both g.V.View g.met.V.View.fetched_both so_far first
    (λ is v holds. (so_far.stands v holds, leads_first _ _ (next_leads c.args.g.now c.loop-rest.rest.now c.next_name.result.0.now c.next_name.result.1.now c.loop-rest.number c.next_name.ensures.names c.loop-rest.invariant.leads) (first.told is) v holds)) (λ h. h) c.loop-rest.invariant.consulted c.in_err-inode.ensures.consults)

pub returns-in_err-number-clause-consults : goal.returns-in_err-number-clause-consults
returns-in_err-number-clause-consults g c =
    let p = err_from_is_err_and c.from_residual-in_err-number.result c.from_residual-in_err-number.ensures.1 in
    let so_far = c.loop-rest.invariant.keeps in
    let first = c.read_named.ensures.keeps in
    let second = c.find_name.ensures.keeps in
    rw (p.1, p.2) (consults_both g.V.View g.met.V.View.fetched_both (keeps_both g.met.V.View.further c.args.view.now c.loop-rest.view c.read_named.new.view so_far first) second
    (λ is v holds. (first.stands v (so_far.stands v holds), leads_first _ _ (leads_on _ _ c.in_ok-inode.inode so_far.stands first.told (next_leads c.args.g.now c.loop-rest.rest.now c.next_name.result.0.now c.next_name.result.1.now c.loop-rest.number c.next_name.ensures.names c.loop-rest.invariant.leads) c.in_ok-inode.ensures.rule) (second.told is) v holds)) (λ h. h)
    (consults_both g.V.View g.met.V.View.fetched_both so_far first
    (λ is v holds. (so_far.stands v holds, leads_first _ _ (next_leads c.args.g.now c.loop-rest.rest.now c.next_name.result.0.now c.next_name.result.1.now c.loop-rest.number c.next_name.ensures.names c.loop-rest.invariant.leads) (first.told is) v holds)) (λ h. h) c.loop-rest.invariant.consulted c.read_named.ensures.consults) c.in_err-number.ensures.consults)

pub returns-in_err-inode-2-clause-consults : goal.returns-in_err-inode-2-clause-consults
returns-in_err-inode-2-clause-consults g c =
    let p = err_from_is_err_and c.from_residual-in_err-inode-2.result c.from_residual-in_err-inode-2.ensures.1 in
    let none : length c.loop-rest.rest.now ≡ 0 = search rules in
    let so_far = c.loop-rest.invariant.keeps in
    let last = c.read_named-2.ensures.keeps in
    rw (p.1, p.2) (consults_both g.V.View g.met.V.View.fetched_both so_far last
    (λ is v holds. (so_far.stands v holds, leads_first _ _ (last_leads c.args.g.now c.loop-rest.rest.now c.loop-rest.number none c.loop-rest.invariant.leads) (last.told is) v holds)) (λ h. h) c.loop-rest.invariant.consulted c.in_err-inode-2.ensures.consults)

pub returns-clause-consults : goal.returns-clause-consults
returns-clause-consults g c =
    let none : length c.loop-rest.rest.now ≡ 0 = search rules in
    let so_far = c.loop-rest.invariant.keeps in
    let last = c.read_named-2.ensures.keeps in
    consults_both g.V.View g.met.V.View.fetched_both so_far last
    (λ is v holds. (so_far.stands v holds, leads_first _ _ (last_leads c.args.g.now c.loop-rest.rest.now c.loop-rest.number none c.loop-rest.invariant.leads) (last.told is) v holds)) (λ h. absurd h) c.loop-rest.invariant.consulted c.read_named-2.ensures.consults
