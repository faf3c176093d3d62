use Rattle.std.proofs.Common.{inl, rules}
use Rattle.dired_text.proofs.mem_shell.MemShellShell.run.Goals as goal

pub returns-then-contains-clause-may_fail : goal.returns-then-contains-clause-may_fail
returns-then-contains-clause-may_fail c = inl (search rules)

pub returns-then-is_err-clause-runs : goal.returns-then-is_err-clause-runs
returns-then-is_err-clause-runs c = inl (search rules)
