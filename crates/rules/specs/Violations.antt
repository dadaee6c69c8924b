-- The numbers by which violations are answered, and the rules in order: those of `node_rules`.
pub use Rattle.node_rules.specs.Violations.{number_of, rules}
