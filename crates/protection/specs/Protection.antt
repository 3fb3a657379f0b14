-- Protection: what PP allows in a page and in a block (rules 5, steps 2 and 6), and guarded storage (step 5). A fetch needs the right to read.
use Rattle.std.specs.Prelude.{ℕ, ◌%◌, Bool, cond, not, ◌&&◌, eqb}
use Rattle.protection.specs.Access.{storing}

-- the right to read a page: with key 1, PP 00 allows nothing; every other page may be read
unfoldable pub page_readable : Bool → ℕ → Bool
page_readable key pp = not (key && eqb pp 0)

-- the right to write a page: with key 0 all but PP 11, with key 1 PP 10 alone
unfoldable pub page_writable : Bool → ℕ → Bool
page_writable key pp = cond key (eqb pp 2) (not (eqb pp 3))

-- step 6: the key and the page's PP allow the access
unfoldable pub page_allows : Bool → ℕ → ℕ → Bool
page_allows key pp kind = cond (storing kind) (page_writable key pp) (page_readable key pp)

-- step 2: a block's PP allows the access; 00 allows nothing, 01 and 11 reading and fetching, 10 all
unfoldable pub block_allows : ℕ → ℕ → Bool
block_allows pp kind = cond (storing kind) (eqb pp 2) (not (eqb pp 0))

-- G, 1 of the attributes, is one
unfoldable pub guarded : ℕ → Bool
guarded wimg = eqb (wimg % 2) 1
