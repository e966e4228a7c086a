use Rattle.heap_model.proofs.Gaps.{no_gaps}
use Rattle.heap.specs.Content.{content}
use Rattle.heap.proofs.state.Heap.words.Goals as goal

pub returns-clause-gapless : goal.returns-clause-gapless
returns-clause-gapless c = no_gaps (content c.args.self.now) c.args.self.now.sound.tiled
