-- What a call of an import does: put, get and held.
--
-- All arguments have run before anything is looked at. Then the causes are tried in the order of their numbers, each at the call's node: an
-- import that is not known, arguments that it does not take, a string that names no column, and what the book refuses. Whether a lot is there
-- is for the book to say, for get and held too.
use Rattle.std.specs.Prelude.{ℕ, suc, Bool, true, false, cond, List, [], ◌∷◌, ℤ, pos, is_some, Some, None, Ok, Err, codes, Option, Result}
use Rattle.std.specs.Option.{unwrap_or}
use Rattle.book.specs.Meanings.{Meaning, put_answer, put_after, get_answer}
use Rattle.book.specs.declared.fault.BookFault.{BookFault}
use Rattle.book.specs.declared.spot.Spot.{Spot}
use Rattle.node_rules.specs.Scopes.{natural}
use Rattle.node_rules.specs.Tables.{spells}
use Rattle.semantics.specs.Rule.{Rule, string_of}
use Rattle.semantics.specs.Turns.{Turn, ends, deals, stops}
use Rattle.semantics.specs.declared.value.Value.{Value}
use Rattle.semantics.specs.declared.value.Value.TheVariants.{Int, Long, Bool as Truth, Text}
use Rattle.semantics.specs.declared.import.Import.{Import}
use Rattle.semantics.specs.declared.import.Import.TheVariants as import
use Rattle.semantics.specs.declared.import.Request.{Request}
use Rattle.semantics.specs.declared.import.Request.TheVariants as request
use Rattle.semantics.specs.declared.import.Event.TheVariants.{Took, Told, Knew}
use Rattle.semantics.specs.declared.progress.Completion.TheVariants.{Valued}
use Rattle.semantics.specs.declared.stop.Stop.TheVariants as stop

-- The import of a name.
abbrev pub import_of : Option (List ℕ) → Option Import
import_of name =
    cond (spells (codes "put") name) (Some import.Put)
    (cond (spells (codes "get") name) (Some import.Get)
    (cond (spells (codes "held") name) (Some import.Held) None))

-- The eight columns, from 0 on.
abbrev pub columns : List (List ℕ)
columns =
    codes "micron" ∷ codes "yield" ∷ codes "staple" ∷ codes "strength" ∷ codes "vm" ∷ codes "colour" ∷ codes "reserve" ∷ codes "bales" ∷ []

-- The first of these words that the text spells, the words numbered from n.
abbrev pub spelt : ℕ → List (List ℕ) → Option (List ℕ) → Option ℕ
spelt n [] text = None
spelt n (word ∷ words) text = elim (spells word text) [ true ↦ Some n | false ↦ spelt (suc n) words text ]

-- The column that string t names.
abbrev pub column_of : Rule → ℕ → Option ℕ
column_of r t = spelt 0 columns (string_of r t)

abbrev pub text_then : {A : Type 0} → Value → (ℕ → Option A) → Option A
text_then (Int x) f = None
text_then (Long x) f = None
text_then (Truth b) f = None
text_then (Text t) f = f t

abbrev pub int_then : {A : Type 0} → Value → (ℤ → Option A) → Option A
int_then (Int x) f = f x
int_then (Long x) f = None
int_then (Truth b) f = None
int_then (Text t) f = None

-- A put takes a string, an int and an int.
abbrev pub put_request : List Value → Option Request
put_request [] = None
put_request (a ∷ []) = None
put_request (a ∷ b ∷ []) = None
put_request (a ∷ b ∷ c ∷ []) = text_then a (λ t. int_then b (λ l. int_then c (λ v. Some (request.Put t l v))))
put_request (a ∷ b ∷ c ∷ d ∷ row) = None

-- A get and a held take a string and an int.
abbrev pub ask_request : (ℕ → ℤ → Request) → List Value → Option Request
ask_request f [] = None
ask_request f (a ∷ []) = None
ask_request f (a ∷ b ∷ []) = text_then a (λ t. int_then b (λ l. Some (f t l)))
ask_request f (a ∷ b ∷ c ∷ row) = None

-- What an import is asked for by a row of arguments, if it takes them.
abbrev pub request_of : Import → List Value → Option Request
request_of import.Put row = put_request row
request_of import.Get row = ask_request request.Get row
request_of import.Held row = ask_request request.Held row

-- 1 if there is a value, else 0.
abbrev pub one_if : Bool → Value
one_if b = Int (pos (cond b 1 0))

abbrev pub holds : Result (Option ℤ) BookFault → Bool
holds (Err e) = false
holds (Ok x) = is_some x

-- A column and a lot that the book has.
abbrev pub spot_at : ℕ → ℤ → Spot
spot_at c l = record { column = c; lot = natural l }

-- A put gives 1 if it replaced a value, else 0.
abbrev pub put_turn : Meaning → ℕ → ℕ → ℤ → ℤ → Result (Unit {0}) BookFault → Turn
put_turn m i c l v (Err e) = stops (stop.Book e) i
put_turn m i c l v (Ok u) =
    deals (put_after m c l v) (Took (spot_at c l) v) (ends (Valued (one_if (holds (get_answer m c l)))))

-- A get gives the value, or 0 where there is none.
abbrev pub get_turn : Meaning → ℕ → ℕ → ℤ → Result (Option ℤ) BookFault → Turn
get_turn m i c l (Err e) = stops (stop.Book e) i
get_turn m i c l (Ok x) = deals m (Told (spot_at c l) x) (ends (Valued (Int (unwrap_or x (pos 0)))))

-- A held gives 1 if there is a value, else 0.
abbrev pub held_turn : Meaning → ℕ → ℕ → ℤ → Result (Option ℤ) BookFault → Turn
held_turn m i c l (Err e) = stops (stop.Book e) i
held_turn m i c l (Ok x) = deals m (Knew (spot_at c l) (is_some x)) (ends (Valued (one_if (is_some x))))

-- The column must be one of the eight.
abbrev pub on_column : ℕ → Option ℕ → (ℕ → Turn) → Turn
on_column i None f = stops stop.Column i
on_column i (Some c) f = f c

abbrev pub request_turn : Rule → Meaning → ℕ → Option Request → Turn
request_turn r m i None = stops stop.Arguments i
request_turn r m i (Some (request.Put t l v)) = on_column i (column_of r t) (λ c. put_turn m i c l v (put_answer m c l))
request_turn r m i (Some (request.Get t l)) = on_column i (column_of r t) (λ c. get_turn m i c l (get_answer m c l))
request_turn r m i (Some (request.Held t l)) = on_column i (column_of r t) (λ c. held_turn m i c l (get_answer m c l))

-- The act of a call of an import at node i, with the row of its arguments.
abbrev pub import_turn : Rule → Meaning → ℕ → Option Import → List Value → Turn
import_turn r m i None row = stops stop.UnknownImport i
import_turn r m i (Some n) row = request_turn r m i (request_of n row)
