use Rattle.dg_volume_tests.proofs.live_disks.lost.Goals as goal

pub lost-requires : goal.lost-requires
lost-requires g c = c.requires.ready.well
