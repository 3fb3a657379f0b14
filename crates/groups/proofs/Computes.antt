-- What rows compute with: where `groups-compute` unfolds, so does every definition of this crate and of those below.
use Rattle.entry.proofs.Computes.{entry_computes}
use Rattle.register_words.proofs.Computes.{register_words_compute}
use Rattle.groups.specs.Page.{same_page}
use Rattle.groups.specs.Hash.{hash_of, primary_group, secondary_group, groups_of, group_number, group_address}
use Rattle.groups.specs.Group.{group_of, put_group, on_group, first_at, second_at, put_entry, entry_free, first_free, first_free_place, first_of}
use Rattle.groups.specs.Group.{second_of, put_at, free_to, free_after}

unfoldable pub groups_compute : Unit {0}
unfolding entry_computes register_words_compute same_page hash_of primary_group secondary_group groups_of group_number group_address group_of put_group on_group first_at second_at put_entry entry_free first_free first_free_place first_of second_of put_at free_to free_after
groups_compute = tt
