-- All that is shown by computation. Every law names this file, directly or through others, so that a changed definition is refused at an example before a proof. Assumes nothing.
use Rattle.written.proofs.Stands
use Rattle.written.proofs.Rows
use Rattle.written.proofs.Refusals
