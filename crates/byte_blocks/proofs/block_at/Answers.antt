-- `byte_blocks::block_at` meets its contract: one byte more is read after each turn. Assumes nothing.
use Rattle.byte_blocks.specs.Blocks.{block_bytes}
use Rattle.byte_blocks.proofs.Blocks.{block_more, block_all}
use Rattle.room.proofs.Laws.{clip_none}
use native.Mathlib.Omega.{arith}
use mathlib.Core.Path.{refl, sym}
use Rattle.byte_blocks.proofs.block_at.Goals as goal

pub loop-i-init : goal.loop-i-init
loop-i-init c = sym (clip_none _ 0)

pub loop-i-preserved : goal.loop-i-preserved
loop-i-preserved c = block_more c.args.room.now _ c.args.from c.loop-i.i (omega arith) c.loop-i.invariant

pub returns : goal.returns
returns c = block_all c.args.room.now _ c.args.from block_bytes c.loop-i.i c.requires refl (omega arith) (omega arith) c.loop-i.invariant
