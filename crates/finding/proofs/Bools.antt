-- Tests of two parts, taken apart: lemmas of the library under the names that the crates above use.
pub use Rattle.std.proofs.lemmas.Bool.{and_parts as both, or_parts as neither, not-true as not_true}
