pub mod StrictFiles
