-- What the folders and sinks over memory hold, and which of their calls fail.
use Rattle.std.specs.Prelude.{◌≡◌, ◌⊎◌, ℕ, List, Some, None, Contains}
use Rattle.std.specs.FinMap.{get}
use Rattle.octets.specs.Count.{counted}
use Rattle.outside.specs.Files.{Files}
use Rattle.outside.specs.Seen.{FolderSeen, SinkSeen}
use Rattle.outside.specs.declared.sure_folder.SureFolder.{SureFolder}
use Rattle.outside.specs.declared.memory_folder.MemFolder.{MemFolder}
use Rattle.outside.specs.declared.sure_sink.SureSink.{SureSink}
use Rattle.outside.specs.declared.memory_sink.MemSink.{MemSink}

abbrev pub sure_files : SureFolder → Files
sure_files folder = folder.store

abbrev pub memory_files : MemFolder → Files
memory_files folder = folder.store

-- what is seen of them
abbrev pub sure_seen : SureFolder → FolderSeen
sure_seen folder = record { files = Some folder.store; handed = folder.handed; faults = 0; last = None }

abbrev pub memory_seen : MemFolder → FolderSeen
memory_seen folder = record { files = Some folder.store; handed = folder.handed; faults = folder.faults; last = folder.last }

-- the numbers of the calls that fail, and of the next one
abbrev pub failing_reads : MemFolder → List ℕ
failing_reads folder = folder.failing_reads.items

abbrev pub failing_writes : MemFolder → List ℕ
failing_writes folder = folder.failing_writes.items

abbrev pub next_read : MemFolder → ℕ
next_read folder = folder.reads

abbrev pub next_write : MemFolder → ℕ
next_write folder = folder.writes

abbrev pub failing_puts : MemSink → List ℕ
failing_puts sink = sink.failing_puts.items

abbrev pub next_put : MemSink → ℕ
next_put sink = sink.puts

-- the next read fails: its number is listed, or the file isn't there
abbrev pub FailsToRead : MemFolder → List ℕ → Type 0
FailsToRead folder name = Contains (failing_reads folder) (next_read folder) ⊎ (get folder.store name ≡ None)

-- the same calls fail as before
pub record FailsAlike (old new : MemFolder) : Type 0 where
  pub reads : failing_reads new ≡ failing_reads old
  pub writes : failing_writes new ≡ failing_writes old

-- one more read was counted
pub record CountsRead (old new : MemFolder) : Type 0 where
  pub alike : FailsAlike old new
  pub read : next_read new ≡ counted (next_read old) 1
  pub write : next_write new ≡ next_write old

-- one more write was counted
pub record CountsWrite (old new : MemFolder) : Type 0 where
  pub alike : FailsAlike old new
  pub read : next_read new ≡ next_read old
  pub write : next_write new ≡ counted (next_write old) 1

-- one more put was counted
pub record CountsPut (old new : MemSink) : Type 0 where
  pub alike : failing_puts new ≡ failing_puts old
  pub next : next_put new ≡ counted (next_put old) 1

-- a folder in which only what a file holds is other
abbrev pub with_memory_files : Files → MemFolder → MemFolder
with_memory_files files folder = record folder { store = files }

abbrev pub with_sure_files : Files → SureFolder → SureFolder
with_sure_files files folder = record folder { store = files }

abbrev pub sure_text : SureSink → List ℕ
sure_text sink = sink.text

abbrev pub memory_text : MemSink → List ℕ
memory_text sink = sink.text

-- what is seen of them
abbrev pub sure_sink_seen : SureSink → SinkSeen
sure_sink_seen sink = record { written = Some sink.text; faults = 0 }

abbrev pub memory_sink_seen : MemSink → SinkSeen
memory_sink_seen sink = record { written = Some sink.text; faults = sink.faults }
