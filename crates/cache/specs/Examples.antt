-- Worked examples of the cache, each row closed by computation: what a load writes and where, what hits, and what an invalidate zeroes.
use Rattle.std.specs.Prelude.{ℕ, true, false, List, [], ◌∷◌, ◌++◌, map, replicate, take, drop}
use Rattle.std.proofs.Math.Option.{none, some}
use Rattle.std.specs.Int.Bits.{bit_xor}
use Rattle.words.specs.Rows.{Hold, each_bit, only_at}
use Rattle.words.specs.Words.{bytes_of}
use Rattle.groups.specs.declared.Page.{Page}
use Rattle.groups.specs.Examples.{page_at}
use Rattle.cache.specs.Cache.{cache_size, set_of, place_at, holds, hit, older_place, load_place, loaded, set_zeroed}

-- a cleared cache; and a cache that has these eight words in set 5 and zeros elsewhere
abbrev pub clean : List ℕ
clean = replicate cache_size 0

abbrev pub with_set : List ℕ → List ℕ
with_set words = replicate 160 0 ++ bytes_of words ++ replicate 1856 0

-- a page of VSID 0x0C701C, of which 5, 69, 133 and 197 are of set 5, and the first word of an entry for each, with API 0 and H = 0
abbrev pub page : ℕ → Page
page index = page_at 0x0C701C index

abbrev pub tag : ℕ
tag = 0x86380E00

-- what pages 5, 69 and 133 leave, loaded one after the other; the second words of 5 and 133 have C set
abbrev pub one : List ℕ
one = with_set (tag ∷ 0x11111192 ∷ 5 ∷ 1 ∷ 0 ∷ 0 ∷ 0 ∷ 0 ∷ [])

abbrev pub two : List ℕ
two = with_set (tag ∷ 0x11111192 ∷ 5 ∷ 0 ∷ tag ∷ 0x22222112 ∷ 69 ∷ 1 ∷ [])

abbrev pub three : List ℕ
three = with_set (tag ∷ 0x33333192 ∷ 133 ∷ 1 ∷ tag ∷ 0x22222112 ∷ 69 ∷ 0 ∷ [])

-- page 5 in both places of its set, with these second words
abbrev pub twice : ℕ → ℕ → List ℕ
twice second₀ second₁ = with_set (tag ∷ second₀ ∷ 5 ∷ 0 ∷ tag ∷ second₁ ∷ 5 ∷ 1 ∷ [])

-- place 0 of set 5 with this first word and this third word; and set 5 with these two fourth words
abbrev pub held : ℕ → ℕ → List ℕ
held first index = with_set (first ∷ 0x11111192 ∷ index ∷ 1 ∷ replicate 4 0)

abbrev pub aged : ℕ → ℕ → List ℕ
aged newer₀ newer₁ = with_set (tag ∷ 0x11111192 ∷ 5 ∷ newer₀ ∷ tag ∷ 0x22222112 ∷ 69 ∷ newer₁ ∷ [])

pub record CacheTables : Type 0 where
  -- the set is the low six bits of the page index; 64 sets of 32 bytes, 16 for a place
  pub sets : Hold (
      (map set_of (0 ∷ 5 ∷ 37 ∷ 63 ∷ 64 ∷ 69 ∷ 0xFFFF ∷ []), 0 ∷ 5 ∷ 37 ∷ 63 ∷ 0 ∷ 5 ∷ 63 ∷ [])
      ∷ (map (λ index. place_at index false) (0 ∷ 5 ∷ 69 ∷ 0xFFFF ∷ []), 0 ∷ 160 ∷ 160 ∷ 2016 ∷ [])
      ∷ (map (λ index. place_at index true) (0 ∷ 5 ∷ 69 ∷ 0xFFFF ∷ []), 16 ∷ 176 ∷ 176 ∷ 2032 ∷ [])
      ∷ []
      )
  -- every byte after a first load, and after a load of another page of the set
  pub loads : Hold (
      (loaded (page 5) tag 0x11111192 clean, one)
      ∷ (loaded (page 69) tag 0x22222112 one, two)
      ∷ []
      )
  -- in bytes, the most significant of each word first
  pub bytes : Hold ((
    take 32 (drop 160 two),
    (0x86 ∷ 0x38 ∷ 0x0E ∷ 0x00 ∷ 0x11 ∷ 0x11 ∷ 0x11 ∷ 0x92 ∷ 0 ∷ 0 ∷ 0 ∷ 5 ∷ 0 ∷ 0 ∷ 0 ∷ 0 ∷ [])
        ++ (0x86 ∷ 0x38 ∷ 0x0E ∷ 0x00 ∷ 0x22 ∷ 0x22 ∷ 0x21 ∷ 0x12 ∷ 0 ∷ 0 ∷ 0 ∷ 69 ∷ 0 ∷ 0 ∷ 0 ∷ 1 ∷ []),
  )
      ∷ []
      )
  -- pages of one set go into place 0, then 1, then 0, then 1: the older load is replaced
  pub replaces : Hold (
      (load_place clean (page 5), false)
      ∷ (load_place one (page 69), true)
      ∷ (load_place two (page 133), false)
      ∷ (load_place three (page 197), true)
      ∷ []
      )
  pub replaced : Hold (
      (loaded (page 133) tag 0x33333192 two, three)
      ∷ []
      )
  -- a page that its set holds is loaded again where it is, and is the newer load
  pub reloaded : Hold (
      (loaded (page 5) tag 0x55555012 two, with_set (tag ∷ 0x55555012 ∷ 5 ∷ 1 ∷ tag ∷ 0x22222112 ∷ 69 ∷ 0 ∷ []))
      ∷ (loaded (page 69) tag 0x55555012 two, with_set (tag ∷ 0x11111192 ∷ 5 ∷ 0 ∷ tag ∷ 0x55555012 ∷ 69 ∷ 1 ∷ []))
      ∷ (loaded (page 69) tag 0x55555012 three, with_set (tag ∷ 0x33333192 ∷ 133 ∷ 0 ∷ tag ∷ 0x55555012 ∷ 69 ∷ 1 ∷ []))
      ∷ (loaded (page 5) tag 0x55555012 one, with_set (tag ∷ 0x55555012 ∷ 5 ∷ 1 ∷ 0 ∷ 0 ∷ 0 ∷ 0 ∷ []))
      ∷ (loaded (page 5) tag 0x55555012 (twice 1 2), with_set (tag ∷ 0x55555012 ∷ 5 ∷ 1 ∷ tag ∷ 2 ∷ 5 ∷ 0 ∷ []))
      ∷ []
      )
  -- a load replaces place 1 only where place 0's fourth word is 1 and its own is not; 7 and 0x80000001 are not 1
  pub older : Hold (
      (map (λ newer. older_place (aged newer 0) 5) (0 ∷ 1 ∷ 7 ∷ 0x80000001 ∷ 0x01000000 ∷ []), false ∷ true ∷ false ∷ false ∷ false ∷ [])
      ∷ (map (λ newer. older_place (aged 1 newer) 5) (0 ∷ 1 ∷ 7 ∷ 0x80000001 ∷ 0x01000000 ∷ []), true ∷ false ∷ true ∷ true ∷ true ∷ [])
      ∷ []
      )
  -- a hit in place 0 and in place 1, by loads; a page that its set does not hold, and one of another set
  pub hits : Hold (
      (hit false two (page 5), some (tag, 0x11111192))
      ∷ (hit false two (page 69), some (tag, 0x22222112))
      ∷ (hit false two (page 133), none)
      ∷ (hit false two (page 6), none)
      ∷ (hit false three (page 5), none)
      ∷ (hit false clean (page 0), none)
      ∷ []
      )
  -- a store hits where C is set
  pub stores : Hold (
      (hit true two (page 5), some (tag, 0x11111192))
      ∷ (hit true two (page 69), none)
      ∷ (hit true three (page 133), some (tag, 0x33333192))
      ∷ (hit true two (page 133), none)
      ∷ []
      )
  -- place 0 first where both hold the page; and a store that meets C clear there is no hit, whatever place 1 has
  pub both : Hold (
      (hit false (twice 0x11111012 0x22222192) (page 5), some (tag, 0x11111012))
      ∷ (hit true (twice 0x11111012 0x22222192) (page 5), none)
      ∷ (hit true (twice 0x11111192 0x22222012) (page 5), some (tag, 0x11111192))
      ∷ []
      )
  -- each bit of the first word turned: V and the VSID are compared, H and API are not
  pub tags : Hold (
      (map (λ bit. holds (held (bit_xor tag bit) 5) (page 5) false) each_bit, only_at 25 31)
      ∷ []
      )
  -- each bit of the third word turned: the whole page index is compared
  pub indexes : Hold (
      (map (λ bit. holds (held tag (bit_xor 5 bit)) (page 5) false) each_bit, replicate 32 false)
      ∷ (map (λ index. holds (held tag index) (page 5) false) (5 ∷ 69 ∷ 0x00010005 ∷ 0x50000 ∷ []), true ∷ false ∷ false ∷ false ∷ [])
      ∷ []
      )
  -- the entry is answered as it stands, another H and API among it
  pub answers : Hold (
      (hit false (held 0x86380E7F 5) (page 5), some (0x86380E7F, 0x11111192))
      ∷ (hit false (held 0x06380E00 5) (page 5), none)
      ∷ (hit false (held 0x86380E80 5) (page 5), none)
      ∷ (hit false (held tag 0x00010005) (page 5), none)
      ∷ []
      )
  -- the 32 bytes of the set of a page index are zeroed, and no other: 5 and 69 alike; the set of 37 lies behind the first 192 bytes
  pub zeroed : Hold (
      (set_zeroed 5 (replicate 2048 255), replicate 160 255 ++ replicate 32 0 ++ replicate 1856 255)
      ∷ (set_zeroed 69 (replicate 2048 255), replicate 160 255 ++ replicate 32 0 ++ replicate 1856 255)
      ∷ (set_zeroed 64 (replicate 2048 255), replicate 32 0 ++ replicate 2016 255)
      ∷ (set_zeroed 5 two, clean)
      ∷ (set_zeroed 69 two, clean)
      ∷ (set_zeroed 37 (take 192 two), take 192 two)
      ∷ []
      )
