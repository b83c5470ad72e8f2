-- The first words of the table say the job.
use Rattle.scanner.proofs.Laying.{laid_end}
use Rattle.scanner.proofs.layout.job_sizes.Goals as goal

pub returns : goal.returns
returns c = laid_end c.min.ensures c.laid_out.ensures c.in-Between.ensures
