-- The fields of a node's record, by its kind.
--
-- `fields` is one table: from which to which number the tag goes, whether there is a name, and what the value is. A kind
-- without a tag has the tag 0 alone.
use Rattle.std.specs.Prelude.{ℕ, Bool, true, false, cond, not, ◌&&◌, List, ℤ, pos, Some, None, Option, ◌==◌, int_le, int_lt, nat_lt}
use Rattle.nodes.specs.Bytes.{byte, le64}
use Rattle.nodes.specs.Kinds.{kind_of, between}
use Rattle.nodes.specs.declared.kind.Kind.{Kind}
use Rattle.nodes.specs.declared.kind.Kind.TheVariants.{Program, Import, ScalarDeclaration, ArrayDeclaration, Method, Parameter, Block, Assignment, Step, CallStatement, If, For, While, Return, Break, Continue, ScalarLocation, ArrayLocation, Literal, Unary, Cast, Call, Len, Binary, Text}
use Rattle.nodes.specs.declared.fields.Value.{Value}
use Rattle.nodes.specs.declared.fields.Value.TheVariants as value
use Rattle.nodes.specs.declared.fields.Fields.{Fields}

abbrev pub row : ℕ → ℕ → Bool → Value → Fields
row first last named v = record { first = first; last = last; named = named; value = v }

abbrev pub fields : Kind → Fields
fields Program = row 0 0 false value.Zero
fields Import = row 0 0 true value.Zero
fields ScalarDeclaration = row 1 3 true value.Zero
fields ArrayDeclaration = row 1 3 true value.Free
fields Method = row 0 3 true value.Zero
fields Parameter = row 1 3 true value.Zero
fields Block = row 0 0 false value.Zero
fields Assignment = row 0 5 false value.Zero
fields Step = row 0 1 false value.Zero
fields CallStatement = row 0 0 false value.Zero
fields If = row 0 0 false value.Zero
fields For = row 0 0 true value.Zero
fields While = row 0 0 false value.Zero
fields Return = row 0 0 false value.Zero
fields Break = row 0 0 false value.Zero
fields Continue = row 0 0 false value.Zero
fields ScalarLocation = row 0 0 true value.Zero
fields ArrayLocation = row 0 0 true value.Zero
fields Literal = row 1 3 false value.Typed
fields Unary = row 0 1 false value.Zero
fields Cast = row 1 2 false value.Zero
fields Call = row 0 0 true value.Zero
fields Len = row 0 0 true value.Zero
fields Binary = row 0 12 false value.Zero
fields Text = row 0 0 false value.StringNumber

-- From 0 to below the limit.
abbrev pub under : ℤ → ℕ → Bool
under v limit = int_le (pos 0) v && int_lt v (pos limit)

-- The value that a tag and a rule for values allow, where there are so many strings.
abbrev pub value_fits : Value → ℕ → ℕ → ℤ → Bool
value_fits value.Zero tag strings v = under v 1
value_fits value.Free tag strings v = true
value_fits value.Typed tag strings v = cond (tag == 3) (under v 2) true
value_fits value.StringNumber tag strings v = under v strings

-- The record has the fields of the row, where there are so many names and strings.
abbrev pub fits : Fields → ℕ → ℕ → List ℕ → Bool
fits f names strings bs =
    between f.first f.last (byte bs 1)
    && (cond f.named (nat_lt (byte bs 2) names) (byte bs 2 == 0)
    && (byte bs 3 == 0
    && (byte bs 6 == 0
    && (byte bs 7 == 0
    && value_fits f.value (byte bs 1) strings (le64 bs 8)))))

abbrev pub kind_fits : Option Kind → ℕ → ℕ → List ℕ → Bool
kind_fits None names strings bs = false
kind_fits (Some k) names strings bs = fits (fields k) names strings bs

abbrev pub bad_fields : ℕ → ℕ → List ℕ → Bool
bad_fields names strings bs = not (kind_fits (kind_of (byte bs 0)) names strings bs)
