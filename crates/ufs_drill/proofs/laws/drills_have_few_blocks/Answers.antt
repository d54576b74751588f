use Rattle.ufs_drill.proofs.BlockLaws.{Laws, few_files, few_kept}
use Rattle.ufs_drill.specs.Items.{drill_items}
use Rattle.ufs_drill.specs.Volumes.{drill_spec}
use Rattle.ufs_drill.proofs.laws.drills_have_few_blocks.Goals as goal

pub returns-clause-files : goal.returns-clause-files
returns-clause-files c = λ seed files image few made i.
    let laws : Laws = record {
      chunks = c.directories_have_a_chunk_an_entry.ensures;
      made = c.built_volumes_are_made_of_parts.ensures;
      geometry = c.built_volumes_have_their_geometry.ensures;
      owner = c.built_fragments_belong_to_files.ensures.files;
      few = c.built_fragments_belong_to_files.ensures.few;
      root = c.files_of_items.ensures.root;
      item = c.files_of_items.ensures.item;
      parents = c.files_of_items.ensures.parents;
      count = c.files_of_items.ensures.count;
      addresses = c.files_of_items.ensures.addresses;
      inodes = c.built_inodes_are_read.ensures;
    } in
    few_files laws seed files few image (laws.made drill_spec (drill_items seed files) image made) i

pub returns-clause-kept : goal.returns-clause-kept
returns-clause-kept c = λ seed files image few made.
    let laws : Laws = record {
      chunks = c.directories_have_a_chunk_an_entry.ensures;
      made = c.built_volumes_are_made_of_parts.ensures;
      geometry = c.built_volumes_have_their_geometry.ensures;
      owner = c.built_fragments_belong_to_files.ensures.files;
      few = c.built_fragments_belong_to_files.ensures.few;
      root = c.files_of_items.ensures.root;
      item = c.files_of_items.ensures.item;
      parents = c.files_of_items.ensures.parents;
      count = c.files_of_items.ensures.count;
      addresses = c.files_of_items.ensures.addresses;
      inodes = c.built_inodes_are_read.ensures;
    } in
    few_kept laws seed files few image (laws.made drill_spec (drill_items seed files) image made)
