-- `blocks` counts the blocks, by the length of the padded message.
use Rattle.std.proofs.Common.{sym}
use Rattle.sha256.proofs.Padded.{pad-blocks}
use Rattle.sha256.proofs.padding.blocks.Goals as goal

pub returns : goal.returns
returns c = sym (pad-blocks _)
