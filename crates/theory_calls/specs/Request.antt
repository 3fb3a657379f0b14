-- What each call on a table brings, by name (rules 5 and 6).
use Rattle.std.specs.Prelude.{ℕ, List, length}
use Rattle.groups.specs.declared.Page.{Page}
use Rattle.registers.specs.Set.{sdr1_of, register_words}

pub record ClearCall : Type 0 where
  pub sdr1 : ℕ

pub record MapCall : Type 0 where
  pub sdr1 : ℕ
  pub page : Page
  pub rpn : ℕ
  pub wimg : ℕ
  pub pp : ℕ

pub record ProtectCall : Type 0 where
  pub sdr1 : ℕ
  pub page : Page
  pub pp : ℕ

-- unmap and look; A is what is said of the lent answer: its bytes, or its length alone
pub record AnsweredCall (A : Type 0) : Type 0 where
  pub sdr1 : ℕ
  pub page : Page
  pub answer : A

-- an access: the bytes of the register page, mode, kind, the operand's effective address and length, and what is said of the lent answer
pub record AccessCall (A : Type 0) : Type 0 where
  pub registers : List ℕ
  pub mode : ℕ
  pub kind : ℕ
  pub address : ℕ
  pub length : ℕ
  pub answer : A

-- a call with what it brings
pub data Request (A : Type 0) : Type 0 where
  clear : ClearCall → Request A
  map_page : MapCall → Request A
  unmap : AnsweredCall A → Request A
  protect : ProtectCall → Request A
  look : AnsweredCall A → Request A
  access : AccessCall A → Request A

-- the SDR1 that a request brings
unfoldable pub sdr1_in : {A : Type 0} → Request A → ℕ
sdr1_in (clear c) = c.sdr1
sdr1_in (map_page c) = c.sdr1
sdr1_in (unmap c) = c.sdr1
sdr1_in (protect c) = c.sdr1
sdr1_in (look c) = c.sdr1
sdr1_in (access c) = sdr1_of (register_words c.registers)

-- what the finite map is fed of a request: of a lent answer its length alone
unfoldable pub fed : Request (List ℕ) → Request ℕ
fed (clear c) = clear c
fed (map_page c) = map_page c
fed (unmap c) = unmap (record { sdr1 = c.sdr1; page = c.page; answer = length c.answer })
fed (protect c) = protect c
fed (look c) = look (record { sdr1 = c.sdr1; page = c.page; answer = length c.answer })
fed (access c) =
    access (record { registers = c.registers; mode = c.mode; kind = c.kind; address = c.address; length = c.length; answer = length c.answer })
