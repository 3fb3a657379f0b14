-- Requests made of their values in order, and fed ones, for rows and proofs.
use Rattle.std.specs.Prelude.{ℕ, List, length}
use Rattle.groups.specs.declared.Page.{Page}
use Rattle.theory_calls.specs.Request.{AnsweredCall, AccessCall, Request, clear, map_page, unmap, protect, look, access}

abbrev pub to_clear : {A : Type 0} → ℕ → Request A
to_clear sdr1 = clear (record { sdr1 = sdr1 })

abbrev pub to_map : {A : Type 0} → ℕ → Page → ℕ → ℕ → ℕ → Request A
to_map sdr1 page rpn wimg pp = map_page (record { sdr1 = sdr1; page = page; rpn = rpn; wimg = wimg; pp = pp })

abbrev pub to_unmap : {A : Type 0} → ℕ → Page → A → Request A
to_unmap sdr1 page answer = unmap (record { sdr1 = sdr1; page = page; answer = answer })

abbrev pub to_protect : {A : Type 0} → ℕ → Page → ℕ → Request A
to_protect sdr1 page pp = protect (record { sdr1 = sdr1; page = page; pp = pp })

abbrev pub to_look : {A : Type 0} → ℕ → Page → A → Request A
to_look sdr1 page answer = look (record { sdr1 = sdr1; page = page; answer = answer })

abbrev pub to_access : {A : Type 0} → List ℕ → ℕ → ℕ → ℕ → ℕ → A → Request A
to_access registers mode kind address bytes answer =
    access (record { registers = registers; mode = mode; kind = kind; address = address; length = bytes; answer = answer })

-- what a call with an answer is fed as
abbrev pub fed_answered : AnsweredCall (List ℕ) → AnsweredCall ℕ
fed_answered c = record { sdr1 = c.sdr1; page = c.page; answer = length c.answer }

abbrev pub fed_access : AccessCall (List ℕ) → AccessCall ℕ
fed_access c = record { registers = c.registers; mode = c.mode; kind = c.kind; address = c.address; length = c.length; answer = length c.answer }
