-- What the rules (4) say of packing and unpacking an entry and of the match test, for all fields and words.
use Rattle.std.specs.Prelude.{ℕ, ◌^◌, ◌<◌, true, false, [], ◌∷◌, ◌≡◌}
use Rattle.words.specs.Bits.{bits}
use Rattle.entry.specs.declared.Fields.{Fields}
use Rattle.entry.specs.Entry.{ignored_bits, within_widths, packed, unpacked, matches}

-- each field is within its width
pub record Within (f : Fields) : Type 0 where
  pub v : f.v < 2 ^ 1
  pub vsid : f.vsid < 2 ^ 24
  pub h : f.h < 2 ^ 1
  pub api : f.api < 2 ^ 6
  pub rpn : f.rpn < 2 ^ 20
  pub r : f.r < 2 ^ 1
  pub c : f.c < 2 ^ 1
  pub wimg : f.wimg < 2 ^ 4
  pub pp : f.pp < 2 ^ 2

pub record PackingAgrees : Type 0 where
  -- fields each within its width are packed, and unpacking what was packed gives the fields
  pub packs : (f : Fields) → within_widths f ≡ true → (packed f).0 ≡ 0
  pub unpack_packed : (f : Fields) → within_widths f ≡ true → unpacked (packed f).1.0 (packed f).1.1 ≡ f
  -- the words have their ignored bits zero
  pub ignored_zero : (f : Fields) → ignored_bits (packed f).1.1 ≡ 0 ∷ 0 ∷ []
  -- other fields give 6 and zero words
  pub refuses : (f : Fields) → within_widths f ≡ false → packed f ≡ (6, (0, 0))
  -- any two words unpack to fields within their widths
  pub unpacked_within : (first second : ℕ) → within_widths (unpacked first second) ≡ true
  -- packing what was unpacked gives the words, where their ignored bits were zero
  pub pack_unpacked : (first second : ℕ) → first < 2 ^ 32 → second < 2 ^ 32 → ignored_bits second ≡ 0 ∷ 0 ∷ []
      → packed (unpacked first second) ≡ (0, (first, second))

-- VSID, H and API within their widths, and any first word of 32 bits
pub record MatchAgrees : Type 0 where
  -- an entry that matches by its whole word has V one and these VSID, H and API
  pub fields : (vsid h api first : ℕ) → vsid < 2 ^ 24 → h < 2 ^ 1 → api < 2 ^ 6 → first < 2 ^ 32 → matches vsid h api first ≡ true
      → (bits 0 0 first ≡ 1) × (bits 1 24 first ≡ vsid) × (bits 25 25 first ≡ h) × (bits 26 31 first ≡ api)
  -- and an entry that has them matches by its whole word
  pub whole : (vsid h api first : ℕ) → vsid < 2 ^ 24 → h < 2 ^ 1 → api < 2 ^ 6 → first < 2 ^ 32
      → (bits 0 0 first ≡ 1) × (bits 1 24 first ≡ vsid) × (bits 25 25 first ≡ h) × (bits 26 31 first ≡ api) → matches vsid h api first ≡ true
