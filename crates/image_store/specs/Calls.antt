-- The calls of an object in memory that are to fail.
use Rattle.std.specs.Prelude.{◌≡◌, ℕ, ◌==◌, Bool, List}
use Rattle.std.specs.List.{list_any}
use Rattle.medium.specs.Counts.{capped_sum}
use Rattle.image_store.specs.declared.failing.Failing.{Failing}
use Rattle.image_store.specs.declared.mem_source.MemSource.{MemSource}
use Rattle.image_store.specs.declared.mem_sink.MemSink.{MemSink}
use Rattle.image_store.specs.declared.mem_images.MemImages.{MemImages}

-- the next call is to fail
abbrev pub is_next_failing : Failing → Bool
is_next_failing f = list_any (λ call. call == f.calls) f.list.items

-- a call was made
abbrev pub IsCalled : Failing → Failing → Type 0
IsCalled old new = new ≡ record old { calls = capped_sum old.calls 1 }

-- no call was made yet, and these are to fail
pub record IsUncalled (list : List ℕ) (f : Failing) : Type 0 where
  pub calls : f.calls ≡ 0
  pub failing : f.list.items ≡ list

-- the numbered calls of a source
abbrev pub source_calls : MemSource → Failing
source_calls source = source.failing

-- the numbered calls of a sink
abbrev pub sink_calls : MemSink → Failing
sink_calls sink = sink.failing

-- the numbered calls of images
abbrev pub images_calls : MemImages → Failing
images_calls images = images.failing
