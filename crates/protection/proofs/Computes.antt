-- What rows compute with: where `protection-computes` unfolds, so does every definition of this crate and of those below.
use Rattle.register_words.proofs.Computes.{register_words_compute}
use Rattle.protection.specs.Access.{user_mode, fetching, storing, relocated, side_of}
use Rattle.protection.specs.Protection.{page_readable, page_writable, page_allows, block_allows, guarded}
use Rattle.protection.specs.Fault.{cause_word, fault_of}

unfoldable pub protection_computes : Unit {0}
unfolding register_words_compute user_mode fetching storing relocated side_of page_readable page_writable page_allows block_allows guarded cause_word fault_of
protection_computes = tt
