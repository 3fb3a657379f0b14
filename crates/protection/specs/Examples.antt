-- Tables that pin mode and kind, protection and fault words, each complete and closed by computation. The stated sides are those of
-- the rules and of the manual's tables 7-8, 7-15 and 7-16.
use Rattle.std.specs.Prelude.{ℕ, Bool, true, false, List, [], ◌∷◌, map}
use Rattle.words.specs.Rows.{Hold}
use Rattle.protection.specs.Access.{user_mode, relocated, side_of}
use Rattle.protection.specs.Protection.{page_allows, block_allows, guarded}
use Rattle.protection.specs.Fault.{no_match, no_fetch, protection, fault_of}
use Rattle.protection.specs.declared.Fault.{Fault}

-- three values by the kind: fetch, load, store
abbrev pub by_kind : {A : Type 0} → (ℕ → A) → List A
by_kind f = f 0 ∷ f 1 ∷ f 2 ∷ []

-- the accesses allowed, in the words of the manual's tables
abbrev pub no_access : List Bool
no_access = false ∷ false ∷ false ∷ []

abbrev pub read_only : List Bool
read_only = true ∷ true ∷ false ∷ []

abbrev pub read_write : List Bool
read_write = true ∷ true ∷ true ∷ []

-- a fault by its values
abbrev pub fault : ℕ → ℕ → ℕ → Fault
fault result word offset = record { result = result; word = word; offset = offset }

pub record ProtectionTables : Type 0 where
  -- PR
  pub privilege : Hold ((map user_mode (0 ∷ 1 ∷ 2 ∷ 3 ∷ 4 ∷ 5 ∷ 6 ∷ 7 ∷ []), false ∷ false ∷ false ∷ false ∷ true ∷ true ∷ true ∷ true ∷ []) ∷ [])
  -- mode × kind: IR for a fetch, DR for data
  pub relocation : Hold (
      (by_kind (relocated 0), false ∷ false ∷ false ∷ [])
      ∷ (by_kind (relocated 1), false ∷ true ∷ true ∷ [])
      ∷ (by_kind (relocated 2), true ∷ false ∷ false ∷ [])
      ∷ (by_kind (relocated 3), true ∷ true ∷ true ∷ [])
      ∷ (by_kind (relocated 4), false ∷ false ∷ false ∷ [])
      ∷ (by_kind (relocated 5), false ∷ true ∷ true ∷ [])
      ∷ (by_kind (relocated 6), true ∷ false ∷ false ∷ [])
      ∷ (by_kind (relocated 7), true ∷ true ∷ true ∷ [])
      ∷ []
      )
  pub sides : Hold ((by_kind side_of, false ∷ true ∷ true ∷ []) ∷ [])
  -- key × PP × kind: table 7-15, whose prohibited accesses are those of table 7-16
  pub page_rights : Hold (
      (by_kind (page_allows false 0), read_write)
      ∷ (by_kind (page_allows false 1), read_write)
      ∷ (by_kind (page_allows false 2), read_write)
      ∷ (by_kind (page_allows false 3), read_only)
      ∷ (by_kind (page_allows true 0), no_access)
      ∷ (by_kind (page_allows true 1), read_only)
      ∷ (by_kind (page_allows true 2), read_write)
      ∷ (by_kind (page_allows true 3), read_only)
      ∷ []
      )
  -- PP × kind: table 7-8
  pub block_rights : Hold (
      (by_kind (block_allows 0), no_access)
      ∷ (by_kind (block_allows 1), read_only)
      ∷ (by_kind (block_allows 2), read_write)
      ∷ (by_kind (block_allows 3), read_only)
      ∷ []
      )
  -- of the attributes W, I, M and G, only G
  pub guards : Hold ((guarded 8, false) ∷ (guarded 4, false) ∷ (guarded 2, false) ∷ (guarded 1, true) ∷ (guarded 14, false) ∷ (guarded 15, true) ∷ [])
  -- cause × kind; a load or a store never meets N or G
  pub faults : Hold (
      (by_kind (fault_of no_match), fault 65 0x40000000 0x400 ∷ fault 64 0x40000000 0x300 ∷ fault 64 0x42000000 0x300 ∷ [])
      ∷ (by_kind (fault_of no_fetch), fault 65 0x10000000 0x400 ∷ fault 64 0x10000000 0x300 ∷ fault 64 0x12000000 0x300 ∷ [])
      ∷ (by_kind (fault_of protection), fault 65 0x08000000 0x400 ∷ fault 64 0x08000000 0x300 ∷ fault 64 0x0A000000 0x300 ∷ [])
      ∷ []
      )
