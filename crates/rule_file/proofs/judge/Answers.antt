use Rattle.std.proofs.Common.{rules}
use Rattle.layout.specs.Readers.{file_of}
use Rattle.rule_file.proofs.Sound.{head_fails, texts_fail, nodes_judge}
use Rattle.rule_file.proofs.judge.Goals as goal

pub returns-in_err-check : goal.returns-in_err-check
returns-in_err-check c =
    head_fails (file_of c.args.reader.now) _ c.in_err-check.field-0.0 (search rules) c.in_err-check.ensures

pub returns-in_err-check-2 : goal.returns-in_err-check-2
returns-in_err-check-2 c =
    texts_fail (file_of c.args.reader.now) _ c.in_err-check-2.field-0.0 (search rules) c.in_ok-check.ensures c.in_err-check-2.ensures

pub returns : goal.returns
returns c =
    nodes_judge (file_of c.args.reader.now) _ c.in_ok-check.ensures c.in_ok-check-2.ensures c.check-3.ensures
