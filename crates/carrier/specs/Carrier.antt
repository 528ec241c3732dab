-- Raw bytes and bare files: what unpacking and packing answer, and what they leave in the caller's buffer.
use Rattle.std.specs.Prelude.{◌≡◌, ℕ, ◌+◌, ◌-◌, ◌*◌, ◌/◌, ◌≤◌, Bool, false, cond, not, ◌&&◌, ◌||◌, [], ◌∷◌, ◌++◌, length, take, drop, Some, None, Ok, Err, filter, Option, Result, ◌==◌, nat_lt, slice_index}
use Rattle.std.specs.List.{flat_map, AllByRecursion}
use Rattle.denials.specs.declared.Denial.{Denial}
use Rattle.denials.specs.declared.Denial.TheVariants.{ShortBuffer}
use Rattle.records.specs.Layouts.{record_bytes}
use Rattle.records.specs.Fields.{Bytes}
use Rattle.zengin.specs.Files.{length_denial, records_of}

-- a byte of a line end: 0Dh or 0Ah
abbrev pub is_line_end : ℕ → Bool
is_line_end x = x == 13 || x == 10

-- any other byte, which unpacking keeps
abbrev pub is_kept : ℕ → Bool
is_kept x = not (is_line_end x)

-- raw bytes without one last 1Ah, if there is one
abbrev pub body : Bytes → Bytes
body raw = cond (nat_lt 0 (length raw) && slice_index raw (length raw - 1) == 26) (take (length raw - 1) raw) raw

-- the bare file: no byte of a line end is left, wherever it stood
abbrev pub bare : Bytes → Bytes
bare raw = filter is_kept (body raw)

-- what stands after each record in a packed file: 0Dh 0Ah
abbrev pub line_end : Bytes
line_end = 13 ∷ 10 ∷ []

-- a record and its line end
abbrev pub line : Bytes → Bytes
line one = one ++ line_end

-- the length of a line
abbrev pub line_bytes : ℕ
line_bytes = record_bytes + 2

-- each record of a bare file as a line
abbrev pub packed : Bytes → Bytes
packed b = flat_map line (records_of b)

-- new bytes over the front of a buffer; every byte beyond them is as before
abbrev pub over : Bytes → Bytes → Bytes
over new old = new ++ drop (length new) old

-- new bytes from a place on; every byte before and beyond them is as before
abbrev pub put : ℕ → Bytes → Bytes → Bytes
put at new old = take at old ++ (new ++ drop (length new) (drop at old))

-- n bytes go into a buffer of that many places, unless the length is denied before
abbrev pub unless_denied : Option Denial → ℕ → ℕ → Result ℕ Denial
unless_denied (Some d) n places = Err d
unless_denied None n places = cond (nat_lt places n) (Err ShortBuffer) (Ok n)

-- the buffer after an answer: a denied call leaves every byte as before
abbrev pub buffer_after : Result ℕ Denial → Bytes → Bytes → Bytes
buffer_after (Ok n) new old = over new old
buffer_after (Err d) new old = old

-- the answer to unpacking raw bytes into a buffer of that many places: the length of the bare file
abbrev pub unpack_answer : Bytes → ℕ → Result ℕ Denial
unpack_answer raw places = unless_denied (length_denial (length (bare raw))) (length (bare raw)) places

-- the buffer after unpacking raw bytes into it
abbrev pub unpack_buffer : Bytes → Bytes → Bytes
unpack_buffer raw out = buffer_after (unpack_answer raw (length out)) (bare raw) out

-- the answer to packing a bare file into a buffer of that many places: a line for each record
abbrev pub pack_answer : Bytes → ℕ → Result ℕ Denial
pack_answer b places = unless_denied (length_denial (length b)) (length b / record_bytes * line_bytes) places

-- the buffer after packing a bare file into it
abbrev pub pack_buffer : Bytes → Bytes → Bytes
pack_buffer b out = buffer_after (pack_answer b (length out)) (packed b) out

-- no byte is one of a line end
abbrev pub Plain : Bytes → Type 0
Plain b = AllByRecursion (λ x. is_line_end x ≡ false) b

-- packing told n: the first n bytes that it left unpack to the bare file, into every buffer that has room for it
pub record Restores (b : Bytes) (told : Result ℕ Denial) (out : Bytes) : Type 0 where
  pub answer : (n : ℕ) → told ≡ Ok n → (other : Bytes) → length b ≤ length other → unpack_answer (take n out) (length other) ≡ Ok (length b)
  pub buffer : (n : ℕ) → told ≡ Ok n → (other : Bytes) → length b ≤ length other → unpack_buffer (take n out) other ≡ over b other
