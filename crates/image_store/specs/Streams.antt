-- The reader and the writer behind a source and a sink.
use Rattle.image_store.specs.declared.in_source.InSource.{InSource}
use Rattle.image_store.specs.declared.out_sink.OutSink.{OutSink}

abbrev pub reader_of : {R : Type 0} → InSource R → R
reader_of source = source.from

abbrev pub writer_of : {W : Type 0} → OutSink W → W
writer_of sink = sink.to
