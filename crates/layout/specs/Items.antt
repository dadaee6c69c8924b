-- Names and strings: a body is cut into items, each a length byte and so many bytes.
--
-- An item keeps its length byte, so that the items in order are the bytes of the body. The last item may be cut off by
-- the body's end. At most 255 are lawful, and the 256th is looked at only to be refused.
use Rattle.std.specs.Prelude.{ℕ, zero, suc, ◌+◌, Bool, List, [], ◌∷◌, length, take, drop, Some, None, Option, nat_lt, slice_get, slice_index}
use Rattle.layout.specs.Head.{name_body, string_body}

abbrev pub items : ℕ → List ℕ → List (List ℕ)
items zero bs = []
items (suc n) [] = []
items (suc n) (size ∷ bs) = (size ∷ take size bs) ∷ items n (drop size bs)

unfoldable pub split : List ℕ → List (List ℕ)
split body = items 256 body

-- What an item says: its bytes after the length byte.
abbrev pub text : List ℕ → List ℕ
text item = drop 1 item

-- The length byte promises more bytes than there are.
abbrev pub cut_off : List ℕ → Bool
cut_off item = nat_lt (length item) (1 + slice_index item 0)

abbrev pub names : List ℕ → List (List ℕ)
names file = split (name_body file)

abbrev pub strings : List ℕ → List (List ℕ)
strings file = split (string_body file)

abbrev pub text_of : Option (List ℕ) → Option (List ℕ)
text_of None = None
text_of (Some item) = Some (text item)

-- The text of item k, where there are so many.
abbrev pub text_at : List (List ℕ) → ℕ → Option (List ℕ)
text_at all k = text_of (slice_get all k)
