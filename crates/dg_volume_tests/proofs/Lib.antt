mod GroupedLemmas
mod LiveGroupLemmas
mod LiveLemmas
mod OpenedLemmas
mod PlaceLemmas
mod ReadyLemmas
mod RoomLemmas
