-- What a caller may rely on, whatever a book is made of.
--
-- The laws are said over a meaning, so that they hold of every make. The last is said of two books by what they did.
use Rattle.std.specs.Prelude.{◌≡◌, ℕ, suc, ◌<◌, true, List, ℤ, pos, Some, Ok, Err, Result}
use Rattle.book.specs.Meanings.{Meaning, put_answer, put_after, get_answer}
use Rattle.book.specs.Calls.{answer_of, after, after_all}
use Rattle.book.specs.declared.fault.BookFault.{BookFault}
use Rattle.book.specs.declared.calls.Call.{Call}
use Rattle.book.specs.declared.calls.Call.TheVariants.{Get}
use Rattle.book.specs.declared.calls.Answer.{Answer}

-- After a put that was taken, a get of the same column and lot gives the value.
abbrev pub PutThenGet : Type 0
PutThenGet =
    (m : Meaning) (c : ℕ) (l v : ℤ) → put_answer m c l ≡ Ok tt → get_answer (put_after m c l v) c l ≡ Ok (Some v)

-- After a put, a get of another column or another lot gives what it gave before.
abbrev pub PutElsewhere : Type 0
PutElsewhere =
    (m : Meaning) (c c' : ℕ) (l l' v : ℤ) → ((c' ≡ c) × (l' ≡ l) → ⊥) → get_answer (put_after m c l v) c' l' ≡ get_answer m c' l'

-- A put that is refused changes nothing.
abbrev pub RefusedPut : Type 0
RefusedPut = (m : Meaning) (c : ℕ) (l v : ℤ) (e : BookFault) → put_answer m c l ≡ Err e → put_after m c l v ≡ m

-- A get changes nothing.
abbrev pub GetKeeps : Type 0
GetKeeps = (m : Meaning) (c : ℕ) (l : ℤ) → after m (Get c l) ≡ m

-- A put of a column and a lot that have a place is taken, then and after any calls.
abbrev pub PlaceStays : Type 0
PlaceStays =
    (m : Meaning) (c l : ℕ) → c < 8 → l < m.lots → m.place c l ≡ true → (calls : List Call) → put_answer (after_all m calls) c (pos l) ≡ Ok tt

-- What a book of any make did under calls without end: what it meant before each call, and what it answered to it. Both are
-- as the contract of the call says.
pub record History (calls : ℕ → Call) : Type 0 where
  pub meaning : ℕ → Meaning
  pub answer : ℕ → Result Answer BookFault
  pub answered : (n : ℕ) → answer n ≡ answer_of (meaning n) (calls n)
  pub kept : (n : ℕ) → meaning (suc n) ≡ after (meaning n) (calls n)

-- Two books of one meaning, whatever each is made of, answer alike for ever, and are of one meaning for ever.
abbrev pub Alike : Type 0
Alike =
    (calls : ℕ → Call) (a b : History calls) → a.meaning 0 ≡ b.meaning 0 → (n : ℕ) → (a.answer n ≡ b.answer n) × (a.meaning n ≡ b.meaning n)

abbrev pub Laws : Type 0
Laws = PutThenGet × PutElsewhere × RefusedPut × GetKeeps × PlaceStays × Alike
