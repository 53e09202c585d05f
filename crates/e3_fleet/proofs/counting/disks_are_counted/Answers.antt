use Rattle.e3_fleet.proofs.counting.disks_are_counted.Goals as goal

pub returns : goal.returns
returns g c = λ d. g.met.D.Disk.counted d
