-- When a name and a string are lawful.
use Rattle.std.specs.Prelude.{ℕ, Bool, not, ◌&&◌, ◌||◌, List, [], ◌∷◌, codes, ◌==◌, slice_index}
use Rattle.std.specs.List.{list_all, list_any}
use Rattle.std.specs.Str.{bytes_eq}
use Rattle.layout.specs.Items.{text, cut_off}
use Rattle.nodes.specs.Kinds.{between}

abbrev pub all : (ℕ → Bool) → List ℕ → Bool
all test bs = list_all test bs

-- The bytes are those of some member of the list.
abbrev pub among : List ℕ → List (List ℕ) → Bool
among bs xss = list_any (bytes_eq bs) xss

-- A to Z, a to z, and the underscore.
abbrev pub letter : ℕ → Bool
letter b = between 65 90 b || (between 97 122 b || b == 95)

abbrev pub digit : ℕ → Bool
digit b = between 48 57 b

abbrev pub letter_or_digit : ℕ → Bool
letter_or_digit b = letter b || digit b

-- A letter first, and nothing but letters and digits.
abbrev pub identifier : List ℕ → Bool
identifier bs = letter (slice_index bs 0) && all letter_or_digit bs

abbrev pub keywords : List (List ℕ)
keywords =
    codes "bool"
    ∷ codes "break"
    ∷ codes "continue"
    ∷ codes "else"
    ∷ codes "false"
    ∷ codes "for"
    ∷ codes "if"
    ∷ codes "import"
    ∷ codes "int"
    ∷ codes "len"
    ∷ codes "long"
    ∷ codes "return"
    ∷ codes "true"
    ∷ codes "void"
    ∷ codes "while"
    ∷ []

unfoldable pub keyword : List ℕ → Bool
keyword bs = among bs keywords

-- What the length byte says.
abbrev pub size_of : List ℕ → ℕ
size_of item = slice_index item 0

-- Item k is cut off, has no lawful length, or is the 256th.
abbrev pub misfit : ℕ → ℕ → ℕ → List ℕ → Bool
misfit least most k item = cut_off item || (not (between least most (size_of item)) || k == 255)

abbrev pub bad_name_length : ℕ → List ℕ → Bool
bad_name_length = misfit 1 31

abbrev pub bad_name : List ℕ → Bool
bad_name item = not (identifier (text item)) || keyword (text item)

-- Printable ASCII, and tab, line feed, form feed and carriage return.
abbrev pub string_byte : ℕ → Bool
string_byte b = between 32 126 b || (between 9 10 b || between 12 13 b)

abbrev pub bad_string : ℕ → List ℕ → Bool
bad_string k item = misfit 0 63 k item || not (all string_byte (text item))
