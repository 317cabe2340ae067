use Rattle.grammar.proofs.Exactly as exactly
use Rattle.grammar.proofs.prove_exact.Goals as goal

pub returns : goal.returns
returns c = record { written_is_read = exactly.written_is_read; read_is_written = exactly.read_is_written }
