-- A page table entry (rules 4): two words, the fields in them, and what is read and changed there.
use Rattle.std.specs.Prelude.{ℕ, ◌+◌, ◌/◌, ◌^◌, Bool, cond, ◌&&◌, List, [], ◌∷◌, eqb, ltb, Result, Ok, Err}
use Rattle.numbers.specs.Numbers.{done, refused_argument}
use Rattle.numbers.specs.Refused.{refusal_number}
use Rattle.numbers.specs.declared.Refusal.{Refusal}
use Rattle.words.specs.Bits.{bits, placed, with_bits}
use Rattle.entry.specs.declared.Fields.{Fields}
use Rattle.entry.specs.declared.Words.{Words}

-- the first word: V bit 0, VSID bits 1 to 24, H bit 25, API bits 26 to 31
unfoldable pub first_word : ℕ → ℕ → ℕ → ℕ → ℕ
first_word v vsid h api = placed 0 v + placed 24 vsid + placed 25 h + api

-- the second word: RPN bits 0 to 19, R bit 23, C bit 24, WIMG bits 25 to 28, PP bits 30 and 31
unfoldable pub second_word : ℕ → ℕ → ℕ → ℕ → ℕ → ℕ
second_word rpn r c wimg pp = placed 19 rpn + placed 23 r + placed 24 c + placed 28 wimg + pp

-- the ignored bits of a second word: 20 to 22, and 29
unfoldable pub ignored_bits : ℕ → List ℕ
ignored_bits second = bits 20 22 second ∷ bits 29 29 second ∷ []

-- each field is within its width
unfoldable pub within_widths : Fields → Bool
within_widths f =
    ltb f.v (2 ^ 1) && ltb f.vsid (2 ^ 24) && ltb f.h (2 ^ 1) && ltb f.api (2 ^ 6)
    && ltb f.rpn (2 ^ 20) && ltb f.r (2 ^ 1) && ltb f.c (2 ^ 1) && ltb f.wimg (2 ^ 4) && ltb f.pp (2 ^ 2)

-- packing: done and the two words of fields each within its width; else a refused argument and zero words
unfoldable pub packed : Fields → ℕ × (ℕ × ℕ)
packed f = cond (within_widths f) (done, (first_word f.v f.vsid f.h f.api, second_word f.rpn f.r f.c f.wimg f.pp)) (refused_argument, (0, 0))

-- the same of what `pack` hands back: done and the words, or the refusal's number and zero words
abbrev pub packed_words : Result Words Refusal → ℕ × (ℕ × ℕ)
packed_words (Ok words) = (done, (words.first, words.second))
packed_words (Err refusal) = (refusal_number refusal, (0, 0))

-- the fields of a second word that an access reads
abbrev pub rpn_of : ℕ → ℕ
rpn_of second = bits 0 19 second

abbrev pub wimg_of : ℕ → ℕ
wimg_of second = bits 25 28 second

abbrev pub pp_of : ℕ → ℕ
pp_of second = bits 30 31 second

-- unpacking: the fields of any two words
unfoldable pub unpacked : ℕ → ℕ → Fields
unpacked first second = record {
  v = bits 0 0 first;
  vsid = bits 1 24 first;
  h = bits 25 25 first;
  api = bits 26 31 first;
  rpn = rpn_of second;
  r = bits 23 23 second;
  c = bits 24 24 second;
  wimg = wimg_of second;
  pp = pp_of second;
}

-- an entry matches: its whole first word is the one packed from V = 1, VSID, H and API
unfoldable pub matches : ℕ → ℕ → ℕ → ℕ → Bool
matches vsid h api first = eqb first (first_word 1 vsid h api)

-- an entry that map may write in: V is zero
unfoldable pub free : ℕ → Bool
free first = eqb (bits 0 0 first) 0

-- the page index of an effective address
unfoldable pub page_index : ℕ → ℕ
page_index address = bits 4 19 address

-- the API: the top six bits of the 16-bit page index
unfoldable pub api_of : ℕ → ℕ
api_of index = index / 2 ^ 10

-- the marks: R is set, C is set
unfoldable pub referenced : ℕ → Bool
referenced second = eqb (bits 23 23 second) 1

unfoldable pub changed : ℕ → Bool
changed second = eqb (bits 24 24 second) 1

-- a word with bit b set if the test holds, every other bit kept
abbrev pub set_if : Bool → ℕ → ℕ → ℕ
set_if test b w = cond test (with_bits b b 1 w) w

-- a second word marked: R set if the page was referenced, C if it was changed, every other bit kept
unfoldable pub with_marks : Bool → Bool → ℕ → ℕ
with_marks reference change second = set_if change 24 (set_if reference 23 second)

-- a second word with another PP, every other bit kept
unfoldable pub with_pp : ℕ → ℕ → ℕ
with_pp pp second = with_bits 30 31 pp second

-- the physical address: RPN, then the effective address's bits 20 to 31
unfoldable pub physical_address : ℕ → ℕ → ℕ
physical_address second address = placed 19 (rpn_of second) + bits 20 31 address
