-- The head of a file and its three bodies.
--
-- Byte 0 is the edition, bytes 1 to 3 are zero, and bytes 4 to 27 are the contents: offset and length of the nodes, of
-- the names and of the strings. A body is the window that the contents tell, wherever that lies.
use Rattle.std.specs.Prelude.{ℕ, ◌+◌, ◌%◌, Bool, ◌&&◌, List, length, ◌==◌, nat_le}
use Rattle.nodes.specs.Bytes.{byte, le32, window}
use Rattle.layout.specs.declared.reader.Part.{Part}
use Rattle.layout.specs.declared.reader.Contents.{Contents}

-- The pair of the contents that begins at a byte.
abbrev pub part : List ℕ → ℕ → Part
part file at = record { offset = le32 file at; length = le32 file (at + 4) }

abbrev pub contents : List ℕ → Contents
contents file = record { nodes = part file 4; names = part file 12; strings = part file 20 }

-- The window that the pair at a byte tells.
unfoldable pub body_at : List ℕ → ℕ → List ℕ
body_at file at = window file (part file at).offset (part file at).length

abbrev pub node_body : List ℕ → List ℕ
node_body file = body_at file 4

abbrev pub name_body : List ℕ → List ℕ
name_body file = body_at file 12

abbrev pub string_body : List ℕ → List ℕ
string_body file = body_at file 20

-- A file has 28 to 24,576 bytes.
abbrev pub sized : List ℕ → Bool
sized file = nat_le 28 (length file) && nat_le (length file) 24576

-- The edition is 1, and three zeros follow.
abbrev pub edition_one : List ℕ → Bool
edition_one file = byte file 0 == 1 && (byte file 1 == 0 && (byte file 2 == 0 && byte file 3 == 0))

-- The first body begins at byte 28, each other where the one before ends, and the last ends with the file.
abbrev pub contiguous : ℕ → Contents → Bool
contiguous size c =
    (c.nodes.offset == 28)
    && (c.names.offset == c.nodes.offset + c.nodes.length
    && (c.strings.offset == c.names.offset + c.names.length
    && size == c.strings.offset + c.strings.length))

-- The nodes are 1 to 1,024 records of 16 bytes.
abbrev pub counted : Contents → Bool
counted c = nat_le 1 c.nodes.length && (nat_le c.nodes.length 16384 && c.nodes.length % 16 == 0)
