-- What a reader and a row of items stand for, and what a window shows.
use Rattle.std.specs.Prelude.{◌≡◌, ℕ, ◌<◌, List, [], ◌∷◌, length, Some, None, Option}
use Rattle.std.specs.Borrow.{Bor}
use Rattle.layout.specs.Items.{items}
use Rattle.layout.specs.declared.items.Items.{Items}
use Rattle.layout.specs.declared.reader.Reader.{Reader}

-- The bytes of the file that a reader is over.
abbrev pub file_of : Reader → List ℕ
file_of r = r.file.now

-- The items that are still to come.
abbrev pub pending : Items → List (List ℕ)
pending it = items it.left it.rest.now

-- One item was taken from the row, or there was none.
abbrev pub Stepped : Option (Bor (List ℕ)) → List (List ℕ) → List (List ℕ) → Type 0
Stepped None before after = (before ≡ []) × (after ≡ [])
Stepped (Some item) before after = (before ≡ item.now ∷ after) × (0 < length item.now)

-- A window shows exactly these bytes, and there is none where there are none to show.
abbrev pub Shows : Option (Bor (List ℕ)) → Option (List ℕ) → Type 0
Shows None bytes = bytes ≡ None
Shows (Some window) bytes = bytes ≡ Some window.now
