-- Each arm writes the text of the form that it was told.
use mathlib.Core.List.{append-nil}
use Rattle.laws.specs.Texts.{bytes, utf8}
use Rattle.model.specs.Traces.{render}
use Rattle.timeline.specs.Waits.{detail_of}
use Rattle.traces.proofs.write_words.Goals as goal

pub returns-in-Overwrites : goal.returns-in-Overwrites
unfolding render detail_of bytes utf8
returns-in-Overwrites c = rw c.in-Overwrites.is (simp append-nil at c.write_parts.ensures)

pub returns-in-MemoryOrder : goal.returns-in-MemoryOrder
unfolding render detail_of bytes utf8
returns-in-MemoryOrder c = rw c.in-MemoryOrder.is (simp append-nil at c.write_parts-in-MemoryOrder.ensures)

pub returns-in-Drains : goal.returns-in-Drains
unfolding render detail_of bytes utf8
returns-in-Drains c = rw c.in-Drains.is (simp append-nil at c.write_parts-in-Drains.ensures)

pub returns-in-WaitsFor : goal.returns-in-WaitsFor
unfolding render detail_of bytes utf8
returns-in-WaitsFor c = rw c.in-WaitsFor.is (simp append-nil at c.write_parts-in-WaitsFor.ensures)

pub returns-in-WaitsForOlder : goal.returns-in-WaitsForOlder
unfolding render detail_of bytes utf8
returns-in-WaitsForOlder c = rw c.in-WaitsForOlder.is (simp append-nil at c.write_parts-in-WaitsForOlder.ensures)

pub returns-in-BehindBranch : goal.returns-in-BehindBranch
unfolding render detail_of bytes utf8
returns-in-BehindBranch c = rw c.in-BehindBranch.is (simp append-nil at c.write_parts-in-BehindBranch.ensures)

pub returns-in-BehindSystem : goal.returns-in-BehindSystem
unfolding render detail_of bytes utf8
returns-in-BehindSystem c = rw c.in-BehindSystem.is (simp append-nil at c.write_parts-in-BehindSystem.ensures)

pub returns-in-StillWrites : goal.returns-in-StillWrites
unfolding render detail_of bytes utf8
returns-in-StillWrites c = rw c.in-StillWrites.is (simp append-nil at c.write_parts-in-StillWrites.ensures)

pub returns-in-AllBusy : goal.returns-in-AllBusy
unfolding render detail_of bytes utf8
returns-in-AllBusy c = rw c.in-AllBusy.is (simp append-nil at c.write_parts-in-AllBusy.ensures)

pub returns-in-RedirectTo : goal.returns-in-RedirectTo
unfolding render detail_of bytes utf8
returns-in-RedirectTo c = rw c.in-RedirectTo.is c.write_hex.ensures
