use Rattle.dg_save.specs.States.{state_of}
use Rattle.dg_save.proofs.FormLemmas.{spelled}
use Rattle.dg_save.proofs.encodes.encode.Goals as goal

pub push_front-requires : goal.push_front-requires
push_front-requires c = spelled (state_of c.args.state.now) c.requires.can

pub push_rest-requires : goal.push_rest-requires
push_rest-requires c = spelled (state_of c.args.state.now) c.requires.can
