-- What the loader accepts the writer makes, and what the writer makes a load takes: the statements of Definition/Writes.antt, proved.
use Rattle.std.proofs.Common.{inl, inr, le_refl}
use Rattle.std.specs.Prelude.{◌≤◌, length}
use Rattle.modules.specs.Laws.Unique.{module-items}
use Rattle.writer.specs.Definition.Entries.{listed}
use Rattle.writer.specs.Definition.Writing.{buffer_after}
use Rattle.writer.specs.Laws.ReadBack.{reads-back, module-as-written, seen, done-counts, done-faultless}
use Rattle.kernel.specs.Definition.Calls.{target_of}
use Rattle.kernel.specs.Definition.Segments.{reach_of}
use Rattle.history.specs.Definition.Writes.{LoadsAsWritten, WrittenLoads}
use Rattle.history.specs.Answers.Loaded.{loads-exactly}

pub loads-as-written : LoadsAsWritten
loads-as-written s good size segment page offset stream output b small e =
    let l = (loads-exactly s good size segment page offset stream output b).0 e in
    let items = module-items stream l.items b l.are in
    rw items (module-as-written (target_of s.tables l.row page) offset stream l.items b small l.start l.are l.faultless)

pub written-loads : WrittenLoads
written-loads s good size segment row listed_at some user page offset bytes buffer output small items e n few done =
    let stream = buffer_after page offset (listed bytes) buffer in
    let back = reads-back page offset bytes buffer small items e n done in
    let target = target_of s.tables row page in
    let reach : 16384 ≤ reach_of s.tables row = rw user (le_refl 16384) in
    (loads-exactly s good size segment page offset stream output n).1 (record {
      start = done-counts page offset items (length buffer) n done;
      row = row;
      listed = listed_at;
      reached = inr (inl user);
      items = items;
      are = seen stream items n back.are few;
      faultless = done-faultless target offset items (length buffer) n some reach done;
    })
